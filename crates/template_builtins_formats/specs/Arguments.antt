-- Arguments that all stand by place.
use Rattle.std.specs.Prelude.{if◌then◌else◌, List, [], Result, Ok, Err}
use Rattle.template_values_errors.specs.declared.ErrorKind.{ErrorKind}
use Rattle.template_values_errors.specs.declared.ErrorKind.TheVariants.{TooManyArguments}
use Rattle.template_values_model.specs.Val.{Val}
use Rattle.template_builtins_arguments.specs.Arguments.{by_place, has_known, keywords_in}

unfoldable pub all_by_place : List Val → Result (List Val) ErrorKind
all_by_place vs = if has_known [] (keywords_in vs) then Ok (by_place vs) else Err TooManyArguments
