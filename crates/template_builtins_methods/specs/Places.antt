-- The places where a text stands in another.
use Rattle.std.specs.Prelude.{ℕ, suc, ◌-◌, ◌+◌, ◌==◌, negsuc, nat_eq, if◌then◌else◌, List, [], ◌∷◌, length, take, chars, Option, None, Some, option_map, Ok}
use Rattle.std.specs.List.{starts_with}
use Rattle.std.specs.Option.{option_or}
use Rattle.template_values_model.specs.Val.{Val, int}
use Rattle.template_builtins_arguments.specs.Answers.{Made, then as after}
use Rattle.template_builtins_texts.specs.Replacing.{parts_between}
use Rattle.template_builtins_methods.specs.Lists.{number}
use Rattle.template_builtins_methods.specs.Placed.{or_refused}
use Rattle.template_builtins_methods.specs.Reading.{both_texts}
use Rattle.template_builtins_methods.specs.declared.places.Direction.{Direction}
use Rattle.template_builtins_methods.specs.declared.places.Direction.TheVariants.{FromStart, FromEnd}

-- the place 0, where the part stands there
abbrev pub here : List ℕ → List ℕ → Option ℕ
here part s = if starts_with nat_eq s part then Some 0 else None

-- the first place where the part stands, in bytes, and the last one
abbrev pub first_place : List ℕ → List ℕ → Option ℕ
first_place part [] = here part []
first_place part (b ∷ bs) = option_or (here part (b ∷ bs)) (option_map (λ i. suc i) (first_place part bs))

abbrev pub last_place : List ℕ → List ℕ → Option ℕ
last_place part [] = here part []
last_place part (b ∷ bs) = option_or (option_map (λ i. suc i) (last_place part bs)) (here part (b ∷ bs))

-- so many characters stand before a place
abbrev pub characters_before : List ℕ → ℕ → ℕ
characters_before s i = length (chars (take i s))

-- the place in characters
unfoldable pub place_in : Direction → List ℕ → List ℕ → Option ℕ
place_in FromStart s part = option_map (characters_before s) (first_place part s)
place_in FromEnd s part = option_map (characters_before s) (last_place part s)

-- where there is none, -1
abbrev pub or_minus_one : Option ℕ → Val
or_minus_one None = int (negsuc 0)
or_minus_one (Some n) = number n

unfoldable pub found : Direction → Val → List Val → Made
found direction v vs = after (both_texts v vs) (λ texts. Ok (or_minus_one (place_in direction texts.0 texts.1)))

-- where there has to be one
unfoldable pub indexed : Val → List Val → Made
indexed v vs = after (both_texts v vs) (λ texts. after (or_refused (place_in FromStart texts.0 texts.1)) (λ n. Ok (number n)))

-- How often the part stands in the text, from the left, no two in one another: one time less than there are parts between. An
-- empty one stands before each character and at the end.
unfoldable pub times : List ℕ → List ℕ → ℕ
times s part = if length part == 0 then length (chars s) + 1 else length (parts_between part (length s) s) - 1

unfoldable pub counted : Val → List Val → Made
counted v vs = after (both_texts v vs) (λ texts. Ok (number (times texts.0 texts.1)))
