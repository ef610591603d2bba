use Rattle.std.proofs.Common.{◌∙◌, ap, inr, option_map, subst, sym}
use Rattle.std.proofs.lemmas.Result.{err_from_is_err_and}
use Rattle.template_machine_environment_settings.specs.Extras.{Extras, brought_by}
use Rattle.template_machine_environment_settings.specs.Standing.{Settings}
use Rattle.template_program_run.specs.Brought.{program_answers}
use Rattle.template_program_run.specs.Environments.{IsSetFor}
use Rattle.template_program_run.specs.Served.{syntax_under}
use Rattle.template_program_run.proofs.Settings.{syntax_is_set}
use Rattle.template_program_run.proofs.additions.set_up.Goals as goal

pub returns-clause-empty : goal.returns-clause-empty
returns-clause-empty c = λ name.
    c.set_escapes.ensures.sources name
    ∙ c.in_ok-bring.ensures.sources name
    ∙ c.in_ok-set_syntax.ensures.sources name
    ∙ c.in_ok-environment.ensures.empty name

pub returns-clause-settings : goal.returns-clause-settings
returns-clause-settings c =
    let set = syntax_is_set (option_map (λ s. s.now) c.args.options.syntax) c.args.request.now c.args.ids.now _ _
    c.in_ok-set_syntax.ensures.settings c.in_ok-environment.ensures.settings in
    subst (λ (s : Settings). IsSetFor (syntax_under c.args.options) c.args.request.now c.args.ids.now s)
    (sym (c.set_escapes.ensures.settings ∙ c.in_ok-bring.ensures.settings)) set

pub returns-in_err-set_syntax-clause-refused : goal.returns-in_err-set_syntax-clause-refused
returns-in_err-set_syntax-clause-refused c =
    let p = err_from_is_err_and c.from_residual-in_err-set_syntax.result c.from_residual-in_err-set_syntax.ensures.1 in
    rw (p.1, p.2) (inr (c.in_ok-environment.ensures.had_one, c.in_err-set_syntax.ensures.refused))

pub returns-in_err-bring-clause-refused : goal.returns-in_err-bring-clause-refused
returns-in_err-bring-clause-refused c =
    let p = err_from_is_err_and c.from_residual-in_err-bring.result c.from_residual-in_err-bring.ensures.1 in
    rw (p.1, p.2) (inr (c.in_ok-environment.ensures.had_one, c.in_err-bring.ensures.refused))

pub returns-clause-brought : goal.returns-clause-brought
returns-clause-brought c =
    ap (λ (x : Extras _ _ _ _ _). brought_by program_answers x) c.set_escapes.ensures.extras ∙ c.in_ok-bring.ensures.brought
