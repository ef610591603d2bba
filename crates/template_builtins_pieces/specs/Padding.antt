-- Texts made as wide as is asked for, in characters.
use Rattle.std.specs.Prelude.{ℕ, ◌+◌, ◌-◌, ◌*◌, ◌/◌, ◌%◌, ◌==◌, ◌||◌, Bool, List, [], ◌∷◌, ◌++◌, length, take, drop, slice_index, chars, codes, Option, None, Some, Result, Ok, if◌then◌else◌}
use Rattle.std.specs.List.{repeat}
use Rattle.template_values_errors.specs.declared.ErrorKind.{ErrorKind}
use Rattle.template_values_model.specs.Val.{Val, text}
use Rattle.template_builtins_arguments.specs.Answers.{Made, then as after, refused}
use Rattle.template_builtins_arguments.specs.Arguments.{needed_from, whole}
use Rattle.template_builtins_texts.specs.Indenting.{width_from}
use Rattle.template_builtins_pieces.specs.Reading.{placed, plain_text}
use Rattle.template_builtins_pieces.specs.declared.padding.Place.{Place}
use Rattle.template_builtins_pieces.specs.declared.padding.Place.TheVariants.{Left, Middle, Right}

-- how many characters a text lacks
abbrev pub lacking : ℕ → List ℕ → ℕ
lacking width s = width - length (chars s)

-- Of so many more characters, those before a text that stands in the middle: half of them, and an odd one too where the width is odd.
abbrev pub before_middle : ℕ → ℕ → ℕ
before_middle width more = more / 2 + more % 2 * (width % 2)

-- those before a text at the left, in the middle or at the right
abbrev pub before : Place → ℕ → ℕ → ℕ
before Left width more = 0
before Middle width more = before_middle width more
before Right width more = more

-- so many before a text, and the others of those that it lacks behind it
abbrev pub surrounded : ℕ → ℕ → List ℕ → List ℕ → List ℕ
surrounded front more fill s = repeat front fill ++ (s ++ repeat (more - front) fill)

abbrev pub padded : Place → ℕ → List ℕ → List ℕ → List ℕ
padded place width fill s = surrounded (before place width (lacking width s)) (lacking width s) fill s

-- a width: a whole number, below 0 it is 0, and it may not be past the greatest
abbrev pub width_of : Val → Result ℕ ErrorKind
width_of v = after (whole v) width_from

abbrev pub width_argument : Option Val → Result ℕ ErrorKind
width_argument given = after (needed_from given) width_of

-- a text of one character
abbrev pub one_character : List ℕ → Result (List ℕ) ErrorKind
one_character s = if length (chars s) == 1 then Ok s else refused

-- what a text is filled up with: a space where nothing is said
abbrev pub fill_from : Option Val → Result (List ℕ) ErrorKind
fill_from None = Ok (codes " ")
fill_from (Some v) = after (plain_text v) one_character

abbrev pub pad : Place → Val → List Val → Made
pad place v vs =
    after (placed (codes "width" ∷ codes "fill" ∷ []) 1 vs) (λ given.
    after (plain_text v) (λ s.
    after (width_argument (given 0)) (λ width.
    after (fill_from (given 1)) (λ fill.
    Ok (text (padded place width fill s))))))

-- whether a byte is a sign
abbrev pub is_sign : ℕ → Bool
is_sign b = b == 43 || b == 45

-- how many signs begin a text: one, or none
abbrev pub sign_length : List ℕ → ℕ
sign_length s = if is_sign (slice_index s 0) then 1 else 0

-- so many zeros between the sign and the rest
abbrev pub with_zeros : ℕ → List ℕ → List ℕ
with_zeros n s = take (sign_length s) s ++ (repeat n (codes "0") ++ drop (sign_length s) s)

abbrev pub zero_filled : ℕ → List ℕ → List ℕ
zero_filled width s = with_zeros (lacking width s) s

abbrev pub zero_fill : Val → List Val → Made
zero_fill v vs =
    after (placed (codes "width" ∷ []) 1 vs) (λ given.
    after (plain_text v) (λ s.
    after (width_argument (given 0)) (λ width.
    Ok (text (zero_filled width s)))))
