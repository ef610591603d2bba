-- What a builtin answers.
use Rattle.std.specs.Prelude.{List, [], ◌∷◌, Err}
use Rattle.template_values_errors.specs.declared.ErrorKind.TheVariants.{MissingArgument}
use Rattle.template_values_model.specs.Val.{Val}
use Rattle.template_callables.specs.Callables.{View, Says}
use Rattle.template_builtins_arguments.specs.Answers.{Made, answered}
use Rattle.template_builtins_callables.specs.Builtins.{tested}
use Rattle.template_builtins_callables.specs.Filtered.{filtered}
use Rattle.template_builtins_callables.specs.declared.builtin.Builtin.{Builtin}
use Rattle.template_builtins_callables.specs.declared.builtin.Kind.{Kind}
use Rattle.template_builtins_callables.specs.declared.builtin.Kind.TheVariants.{Filter, Test}

-- what it makes of the arguments, of which the first is what is filtered or tested
abbrev pub made : Kind → View → List Val → Made
made kind view [] = Err MissingArgument
made (Filter filter) view (v ∷ vs) = filtered filter view v vs
made (Test test) view (v ∷ vs) = tested test view v vs

abbrev pub kind_says : Kind → Says
kind_says kind view vs = answered (made kind view vs)

abbrev pub builtin_says : Builtin → Says
builtin_says builtin view vs = kind_says builtin.kind view vs
