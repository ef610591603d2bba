-- What is answered where the builtins stand alone.
use Rattle.std.specs.Prelude.{◌≡◌, ℕ, List, None, Some, option_map}
use Rattle.template_values_model.specs.Val.{Val}
use Rattle.template_callables.specs.Callables.{Callables, Says}
use Rattle.template_callables.specs.Joins.{Joins, keeps_name}
use Rattle.template_machine_environment.specs.Extras.{Extras, FormatsSay, Brought, brought_by, no_extras, user_answers}
use Rattle.template_builtins_callables.specs.Says.{builtin_says, kind_says}
use Rattle.template_builtins_callables.specs.declared.builtin.Builtin.{Builtin}
use Rattle.template_builtins_arguments.specs.Answers.{answered}
use Rattle.template_builtins_methods.specs.Methods.{called_by, method_of, methods_say}
use Rattle.template_builtins_methods.specs.declared.method.PythonMethods.{PythonMethods}
use Rattle.template_builtins.specs.Installed.{Installs, filter_kind, test_kind}

-- what is answered for a method that a value does not have
abbrev pub method_says : Val → List ℕ → Says
method_says v name view vs = answered (called_by (method_of v name) view v vs)

-- filters and tests by their names, Python's methods, and nothing else
abbrev pub builtin_callables : Callables
builtin_callables = record {
  filters = λ name. option_map kind_says (filter_kind name);
  tests = λ name. option_map kind_says (test_kind name);
  functions = λ number. None;
  methods = Some method_says;
  formats = None;
}

abbrev pub builtins_brought : Brought
builtins_brought = record { callables = builtin_callables; joins = keeps_name }

-- where the builtins were installed into extras of none, that is what they bring, whatever is said of what is not brought
abbrev pub AnswersAlike : {F J R : Type 0} → FormatsSay F → (J → Joins) → Extras Builtin PythonMethods F J R → Type 0
AnswersAlike formats joins x = Installs (λ b c. c ≡ b) (λ methods method. method ≡ methods) no_extras x
    → brought_by (user_answers builtin_says methods_say formats joins) x ≡ builtins_brought

-- so it is by whatever types
abbrev pub AnswerAlike : Type 1
AnswerAlike = (F J R : Type 0) (formats : FormatsSay F) (joins : J → Joins) (x : Extras Builtin PythonMethods F J R)
    → AnswersAlike formats joins x
