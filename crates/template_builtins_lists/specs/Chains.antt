-- The items of several values.
use Rattle.std.specs.Prelude.{if◌then◌else◌, List, [], ◌∷◌, ◌++◌, Result, Ok, Err}
use Rattle.template_values_errors.specs.declared.ErrorKind.{ErrorKind}
use Rattle.template_values_errors.specs.declared.ErrorKind.TheVariants.{TooManyArguments}
use Rattle.template_values_model.specs.Val.{Val}
use Rattle.template_callables.specs.Callables.{View}
use Rattle.template_builtins_arguments.specs.Answers.{then as after}
use Rattle.template_builtins_arguments.specs.Arguments.{by_place, has_known, keywords_in}
use Rattle.template_builtins_arguments.specs.Parts.{items_of}

-- arguments that all stand by place
unfoldable pub all_by_place : List Val → Result (List Val) ErrorKind
all_by_place vs = if has_known [] (keywords_in vs) then Ok (by_place vs) else Err TooManyArguments

-- items behind others
abbrev pub put_onto : List Val → Result (List Val) ErrorKind → Result (List Val) ErrorKind
put_onto front rest = after rest (λ items. Ok (front ++ items))

-- the items of all, one value behind another
abbrev pub items_of_all : View → List Val → Result (List Val) ErrorKind
items_of_all view [] = Ok []
items_of_all view (v ∷ vs) = after (items_of view v) (λ items. put_onto items (items_of_all view vs))
