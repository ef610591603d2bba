-- Texts without white space, or without some characters, at their ends.
use Rattle.std.specs.Prelude.{ℕ, List, Option, None, Some, Result, Ok}
use Rattle.std.specs.Str as str
use Rattle.template_values_errors.specs.declared.ErrorKind.{ErrorKind}
use Rattle.template_values_model.specs.Val.{Val, none, text}
use Rattle.template_builtins_arguments.specs.Answers.{Made, then}
use Rattle.template_builtins_texts.specs.Trims.{trimmed, trimmed_first, trimmed_last}
use Rattle.template_builtins_methods.specs.Placed.{argument_or_none}
use Rattle.template_builtins_methods.specs.Reading.{text_held}
use Rattle.template_builtins_methods.specs.declared.strips.Side.{Side}
use Rattle.template_builtins_methods.specs.declared.strips.Side.TheVariants.{Both, Left, Right}

-- the characters to go, where the argument is not none
abbrev pub set_from : Option Val → Result (Option (List ℕ)) ErrorKind
set_from None = Ok None
set_from (Some none) = Ok None
set_from (Some v) = then (text_held v) (λ set. Ok (Some set))

-- without white space
abbrev pub bare : Side → List ℕ → List ℕ
bare Both s = str.trim s
bare Left s = str.trim_start s
bare Right s = str.trim_end s

-- without the characters of a text
abbrev pub without : Side → List ℕ → List ℕ → List ℕ
without Both set s = trimmed set s
without Left set s = trimmed_first set s
without Right set s = trimmed_last set s

abbrev pub stripped : Side → Option (List ℕ) → List ℕ → List ℕ
stripped side None s = bare side s
stripped side (Some set) s = without side set s

unfoldable pub strip : Side → Val → List Val → Made
strip side v vs =
    then (argument_or_none vs) (λ given.
    then (text_held v) (λ s.
    then (set_from given) (λ set. Ok (text (stripped side set s)))))
