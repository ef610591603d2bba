-- What is brought to the environment that a request is answered in.
use Rattle.std.specs.Prelude.{Bool, if◌then◌else◌}
use Rattle.template_callables.specs.Callables.{escapes}
use Rattle.template_callables.specs.Joins.{keeps_name}
use Rattle.template_machine_environment_settings.specs.Extras.{Brought, UserAnswers, nothing_brought, user_answers}
use Rattle.template_builtins.specs.Brought.{builtins_brought}
use Rattle.template_builtins_callables.specs.Says.{builtin_says}
use Rattle.template_builtins_callables.specs.declared.builtin.Builtin.{Builtin}
use Rattle.template_builtins_methods.specs.Methods.{methods_say}
use Rattle.template_builtins_methods.specs.declared.method.PythonMethods.{PythonMethods}
use Rattle.template_program_run.specs.declared.options.Options.{Options}

-- the builtins where they are asked for, else nothing
abbrev pub brought_if : Bool → Brought
brought_if builtins = if builtins then builtins_brought else nothing_brought

abbrev pub brought_under : Options → Brought
brought_under options = brought_if options.builtins

-- what is answered there by the types of what can be brought: by builtins, and by nothing of a user's own
abbrev pub program_answers : {F J : Type 0} → UserAnswers Builtin PythonMethods F J
program_answers = user_answers builtin_says methods_say (λ formatter view v. escapes v) (λ join. keeps_name)
