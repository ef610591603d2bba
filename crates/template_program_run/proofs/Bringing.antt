-- What the options bring.
use Rattle.std.proofs.Common.{◌≡◌, ◌∙◌, Bool, true, false, List, ℕ, None, option_map, unwrap_or, refl, ap, subst, sym}
use Rattle.template_compiler_syntax.specs.Syntax.{default_syntax}
use Rattle.template_callables.specs.Callables.{escapes}
use Rattle.template_callables.specs.Joins.{keeps_name}
use Rattle.template_machine_surroundings.specs.declared.escape.EscapeRule.{EscapeRule}
use Rattle.template_machine_surroundings.specs.declared.escape.EscapeRule.TheVariants.{ByName, Never, Fixed}
use Rattle.template_machine_environment_settings.specs.Extras.{Extras, brought_by, no_extras}
use Rattle.template_machine_environment_settings.specs.Isolation.{AskNoNames}
use Rattle.template_machine_environment_settings.specs.Reading.{rule_for}
use Rattle.template_machine_meaning.proofs.Isolated.{no_callables_ask}
use Rattle.template_builtins.specs.Brought.{builtins_brought}
use Rattle.template_builtins.specs.Installed.{Installs}
use Rattle.template_builtins.proofs.Bringing.{answers_alike}
use Rattle.template_builtins_callables.specs.declared.builtin.Builtin.{Builtin}
use Rattle.template_builtins_methods.specs.declared.method.PythonMethods.{PythonMethods}
use Rattle.template_program_run.specs.Brought.{brought_if, program_answers}
use Rattle.template_program_run.specs.Environments.{callback_under}
use Rattle.template_program_run.specs.Served.{plainly_served, rule_under, served_under}
use Rattle.template_program_run.specs.declared.extension.OneEscape.{OneEscape}
use Rattle.template_program_run.specs.declared.options.Options.{Options}

-- options of nothing
pub none_served : (options : Options) → options.builtins ≡ false → options.escapes ≡ ByName → options.syntax ≡ None
    → options.names_as_json ≡ false → options.tells_where ≡ false → served_under options ≡ plainly_served
none_served options builtins rule syntax names places = λ i. record {
  brought = brought_if (builtins i);
  syntax = unwrap_or (option_map (λ given. given.now) (syntax i)) default_syntax;
  escapes = rule_under (rule i);
  names_as_json = names i;
  tells_where = places i;
}

-- none of what they bring asks for names
pub asks_none : AskNoNames builtins_brought.callables → (flag : Bool) → AskNoNames (brought_if flag).callables
asks_none builtins true = builtins
asks_none builtins false = no_callables_ask

-- extras of none bring nothing
pub nothing_added : {F J R : Type 0} (flag : Bool) → flag ≡ false → (x : Extras Builtin PythonMethods F J R) → x ≡ no_extras
    → brought_by program_answers x ≡ brought_if flag
nothing_added flag is x none = ap (brought_by program_answers) none ∙ sym (ap brought_if is)

-- and where the builtins are installed they bring these
pub builtins_added : {F J R : Type 0} (flag : Bool) → flag ≡ true → (old new : Extras Builtin PythonMethods F J R) → old ≡ no_extras
    → Installs (λ b c. c ≡ b) (λ methods m. m ≡ methods) old new → brought_by program_answers new ≡ brought_if flag
builtins_added {F} {J} {R} flag is old new none installs =
    answers_alike (λ formatter view v. escapes v) (λ join. keeps_name) new
    (subst (λ (x : Extras Builtin PythonMethods F J R). Installs (λ b c. c ≡ b) (λ methods m. m ≡ methods) x new) none installs)
    ∙ sym (ap brought_if is)

-- no rule comes with them
pub rule_added : {F J R : Type 0} (old new : Extras Builtin PythonMethods F J R) → old ≡ no_extras
    → Installs (λ b c. c ≡ b) (λ methods m. m ≡ methods) old new → new.rule ≡ None
rule_added {F} {J} {R} old new none installs =
    ap (λ (x : Extras Builtin PythonMethods F J R). x.rule) installs.others
    ∙ ap (λ (x : Extras Builtin PythonMethods F J R). x.rule) none

-- under what is set to give the escapes, templates are read by the rule of the options
pub rule_read : (rule : EscapeRule) (name : List ℕ) → rule_for (λ (one : OneEscape) (n : List ℕ). one.escape) ByName (callback_under rule) name ≡ rule_under rule
rule_read ByName name = refl
rule_read Never name = refl
rule_read (Fixed escape) name = refl
