-- Arguments by place alone.
use Rattle.std.specs.Prelude.{ℕ, Bool, ◌&&◌, nat_le, if◌then◌else◌, List, [], length, slice_get, Option, None, Some, Result, Ok, Err}
use Rattle.template_values_errors.specs.declared.ErrorKind.{ErrorKind}
use Rattle.template_values_errors.specs.declared.ErrorKind.TheVariants.{TooManyArguments, MissingArgument}
use Rattle.template_values_model.specs.Val.{Val}
use Rattle.template_builtins_arguments.specs.Answers.{then as after, refused}
use Rattle.template_builtins_arguments.specs.Arguments.{by_place, has_known, keywords_in, needed_from}

-- there are at most so many arguments by place, and none by keyword
abbrev pub takes : ℕ → List Val → Bool
takes most vs = nat_le (length (by_place vs)) most && has_known [] (keywords_in vs)

-- the arguments, from so many to so many
unfoldable pub placed : ℕ → ℕ → List Val → Result (List Val) ErrorKind
placed least most vs =
    if takes most vs
    then (if nat_le least (length (by_place vs)) then Ok (by_place vs) else Err MissingArgument)
    else Err TooManyArguments

-- the first of them
abbrev pub first_of : List Val → Result Val ErrorKind
first_of given = needed_from (slice_get given 0)

-- the one argument
abbrev pub the_argument : List Val → Result Val ErrorKind
the_argument vs = after (placed 1 1 vs) first_of

-- the one argument, where it is given
abbrev pub argument_or_none : List Val → Result (Option Val) ErrorKind
argument_or_none vs = after (placed 0 1 vs) (λ given. Ok (slice_get given 0))

-- what is there, or a refusal
abbrev pub or_refused : {T : Type 0} → Option T → Result T ErrorKind
or_refused None = refused
or_refused (Some x) = Ok x
