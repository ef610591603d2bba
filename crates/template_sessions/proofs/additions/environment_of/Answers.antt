use Rattle.std.proofs.Common.{◌≡◌, ◌∙◌, ℕ, List, ap, sym, subst, Option, Some, inr, get_or, string_bytes, if◌then◌else◌, bytes_eq}
use Rattle.std.proofs.lemmas.Result.{err_from_is_err_and}
use Rattle.template_compiler_syntax.specs.Syntax.{Syntax}
use Rattle.template_machine_surroundings.specs.declared.escape.EscapeRule.{EscapeRule}
use Rattle.template_machine_surroundings.specs.declared.escape.EscapeRule.TheVariants.{ByName}
use Rattle.template_machine_environment_settings.specs.Sources.{IsAccepted, IsRefusedWith, Source}
use Rattle.template_machine_environment_settings.specs.Extras.{Extras, brought_by}
use Rattle.template_machine_environment_settings.specs.Reading.{registry_of, rule_for}
use Rattle.template_machine_environment_settings.specs.Standing.{Settings, source_at}
use Rattle.template_program_run.specs.Brought.{program_answers}
use Rattle.template_program_run.specs.Environments.{IsSetFor, callback_under}
use Rattle.template_program_run.specs.History.{source_under}
use Rattle.template_program_run.specs.Served.{served_under, syntax_under}
use Rattle.template_program_run.specs.declared.extension.OneEscape.{OneEscape}
use Rattle.template_program_run.specs.declared.options.Options.{Options}
use Rattle.template_program_run.proofs.Bringing.{rule_read}
use Rattle.template_program_run.proofs.Histories.{accepted-next, refuses-at, source-next}
use Rattle.template_sessions.proofs.additions.environment_of.Goals as goal

-- what is read is the source of the addition
read_there : (options : Options) (callback : Option OneEscape) (name given text : List ℕ) (syntax : Syntax) (escapes : EscapeRule)
    → callback ≡ callback_under options.escapes → syntax ≡ syntax_under options → escapes ≡ ByName → given ≡ text
    → ◌≡◌ {A = Source} (record {
      text = given;
      syntax = syntax;
      escapes = rule_for (λ (one : OneEscape) (n : List ℕ). one.escape) escapes callback name;
    }) (source_under (served_under options) text)
read_there options callback name given text syntax escapes set same unset is =
    let rule = ap (λ (o : Option OneEscape). rule_for (λ (one : OneEscape) (n : List ℕ). one.escape) escapes o name) set
    ∙ ap (λ (e : EscapeRule). rule_for (λ (one : OneEscape) (n : List ℕ). one.escape) e (callback_under options.escapes) name) unset
    ∙ rule_read options.escapes name in
    λ i. record { text = is i; syntax = same i; escapes = rule i }

pub returns-in_err-add_template_owned-clause-refused : goal.returns-in_err-add_template_owned-clause-refused
returns-in_err-add_template_owned-clause-refused c =
    let p = err_from_is_err_and c.from_residual-in_err-add_template_owned.result c.from_residual-in_err-add_template_owned.ensures.1 in
    let xs = c.args.templates.now in
    let i = c.loop-name.name-index in
    let d = c.loop-name-item.result in
    let text : c.as_str-in-loop-name.result.now ≡ string_bytes (get_or xs i d).1 = c.as_str-in-loop-name.ensures.value ∙ ap (λ x. string_bytes x.1) c.loop-name-item.is in
    let source = read_there c.args.options _ c.as_str.result.now _ _ _ _ c.loop-name.invariant.rule c.loop-name.invariant.settings.syntax_set c.loop-name.invariant.settings.escapes text in
    let refused = subst (λ (s : Source). IsRefusedWith s c.in_err-add_template_owned.field-0.0) source c.in_err-add_template_owned.ensures.refused in
    rw (p.1, p.2) (inr (c.in_ok-environment.ensures.had_one, refuses-at (served_under c.args.options) xs i d c.loop-name-test.true c.in_err-add_template_owned.field-0.0 c.loop-name.invariant.accepted refused))

pub loop-name-preserved : goal.loop-name-preserved
loop-name-preserved c =
    let served = served_under c.args.options in
    let xs = c.args.templates.now in
    let i = c.loop-name.name-index in
    let d = c.loop-name-item.result in
    let name : c.as_str.result.now ≡ string_bytes (get_or xs i d).0 = c.as_str.ensures.value ∙ ap (λ x. string_bytes x.0) c.loop-name-item.is in
    let text : c.as_str-in-loop-name.result.now ≡ string_bytes (get_or xs i d).1 = c.as_str-in-loop-name.ensures.value ∙ ap (λ x. string_bytes x.1) c.loop-name-item.is in
    let source = read_there c.args.options _ _ _ _ _ _ c.loop-name.invariant.rule c.loop-name.invariant.settings.syntax_set c.loop-name.invariant.settings.escapes text in
    let before = registry_of c.loop-name.environment in
    record {
      accepted = accepted-next served xs i d c.loop-name-test.true c.loop-name.invariant.accepted (subst IsAccepted source c.in_ok-add_template_owned.ensures.accepted);
      stands = λ q.
          c.in_ok-add_template_owned.ensures.stands q
          ∙ ap (λ s. if bytes_eq c.as_str.result.now q then Some s else source_at before q) source
          ∙ ap (λ n. if bytes_eq n q then Some (source_under served (string_bytes (get_or xs i d).1)) else source_at before q) name
          ∙ ap (λ o. if bytes_eq (string_bytes (get_or xs i d).0) q then Some (source_under served (string_bytes (get_or xs i d).1)) else o) (c.loop-name.invariant.stands q)
          ∙ sym (source-next served xs i d c.loop-name-test.true q);
      settings = subst (λ (s : Settings). IsSetFor (syntax_under c.args.options) c.args.request.now c.args.ids.now s) (sym c.in_ok-add_template_owned.ensures.settings) c.loop-name.invariant.settings;
      brought = ap (λ (x : Extras _ _ _ _ _). brought_by program_answers x) c.in_ok-add_template_owned.ensures.extras ∙ c.loop-name.invariant.brought;
      rule = ap (λ (x : Extras _ _ _ _ _). x.rule) c.in_ok-add_template_owned.ensures.extras ∙ c.loop-name.invariant.rule;
    }
