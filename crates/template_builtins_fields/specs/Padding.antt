-- What is shown, in the width of its field.
use Rattle.std.specs.Prelude.{ℕ, ◌-◌, ◌/◌, Bool, List, ◌++◌, length, chars, codes, if◌then◌else◌, Option, None, Some, Result, Ok}
use Rattle.std.specs.Char.{encode_utf8}
use Rattle.std.specs.List.{repeat}
use Rattle.template_values_errors.specs.declared.ErrorKind.{ErrorKind}
use Rattle.template_builtins_arguments.specs.Answers.{then as after, refused}
use Rattle.template_builtins_fields.specs.Shown.{Form}
use Rattle.template_builtins_fields.specs.declared.layouts.Alignment.{Alignment}
use Rattle.template_builtins_fields.specs.declared.layouts.Alignment.TheVariants.{Left, Right, Center, Apart}
use Rattle.template_builtins_fields.specs.declared.layouts.Layout.{Layout}
use Rattle.template_builtins_fields.specs.declared.padding.Gaps.{Gaps}

abbrev pub zero_or_space : Bool → ℕ
zero_or_space zero = if zero then 48 else 32

abbrev pub fill_or : Option ℕ → Bool → ℕ
fill_or None zero = zero_or_space zero
fill_or (Some c) zero = c

-- what fills the width up: a zero or a space where nothing is said
abbrev pub fill_of : Layout → ℕ
fill_of layout = fill_or layout.fill layout.zero

-- Without an alignment numbers stand right, or behind zeros and a sign before these, and the rest left.
abbrev pub usual_alignment : Bool → Bool → Alignment
usual_alignment zero number = if number then (if zero then Apart else Right) else Left

-- only numbers have a sign that stands apart
abbrev pub apart : Bool → Result Alignment ErrorKind
apart number = if number then Ok Apart else refused

abbrev pub alignment_or : Option Alignment → Bool → Bool → Result Alignment ErrorKind
alignment_or None zero number = Ok (usual_alignment zero number)
alignment_or (Some Left) zero number = Ok Left
alignment_or (Some Right) zero number = Ok Right
alignment_or (Some Center) zero number = Ok Center
alignment_or (Some Apart) zero number = apart number

abbrev pub alignment_of : Layout → Bool → Result Alignment ErrorKind
alignment_of layout number = alignment_or layout.alignment layout.zero number

abbrev pub gaps : ℕ → ℕ → ℕ → Gaps
gaps front inner back = record { front = front; inner = inner; back = back }

-- how many characters fill up before a sign, between it and the digits, and behind
abbrev pub gaps_of : Alignment → ℕ → Gaps
gaps_of Left lacking = gaps 0 0 lacking
gaps_of Right lacking = gaps lacking 0 0
gaps_of Center lacking = gaps (lacking / 2) 0 (lacking - lacking / 2)
gaps_of Apart lacking = gaps 0 lacking 0

abbrev pub spaced : Gaps → List ℕ → List ℕ → List ℕ → List ℕ
spaced g fill sign body = repeat g.front fill ++ (sign ++ (repeat g.inner fill ++ (body ++ repeat g.back fill)))

-- how many characters a sign and a body lack
abbrev pub lacking : ℕ → List ℕ → List ℕ → ℕ
lacking width sign body = width - length (chars sign) - length (chars body)

unfoldable pub padded : Alignment → List ℕ → ℕ → List ℕ → List ℕ → List ℕ
padded alignment fill width sign body = spaced (gaps_of alignment (lacking width sign body)) fill sign body

abbrev pub sign_of : Bool → List ℕ
sign_of negative = if negative then codes "-" else codes ""

-- what is shown, in a layout
unfoldable pub laid_out : Layout → Form → Result (List ℕ) ErrorKind
laid_out layout form =
    after (alignment_of layout form.0) (λ alignment.
    Ok (padded alignment (encode_utf8 (fill_of layout)) layout.width (sign_of form.1.0) form.1.1))
