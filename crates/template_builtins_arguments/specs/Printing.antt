-- The text of a printed form.
use Rattle.std.specs.Prelude.{ℕ, List, string_bytes}
use Rattle.template_builtins_arguments.specs.declared.parts.PrintedForm.{PrintedForm}
use Rattle.template_builtins_arguments.specs.declared.parts.PrintedForm.TheVariants as forms

abbrev pub shown : PrintedForm → List ℕ
shown (forms.Held s) = s.now
shown (forms.Made s) = string_bytes s
