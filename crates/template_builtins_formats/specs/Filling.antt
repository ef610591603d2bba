-- What is shown, filled up to a width.
use Rattle.std.specs.Prelude.{ℕ, ◌-◌, ◌&&◌, Bool, not, List, [], ◌++◌, length, take, chars, codes, encode_utf8_all, Option, None, Some, if◌then◌else◌}
use Rattle.std.specs.List.{repeat}
use Rattle.template_builtins_formats.specs.declared.directives.Directive.{Directive}
use Rattle.template_builtins_formats.specs.declared.directives.Flags.{Flags}

abbrev pub spaces : ℕ → List ℕ
spaces n = repeat n (codes " ")

abbrev pub zeros : ℕ → List ℕ
zeros n = repeat n (codes "0")

-- a text behind spaces, or before them
unfoldable pub padded : Bool → ℕ → List ℕ → List ℕ
padded left width s = if left then s ++ spaces (width - length (chars s)) else spaces (width - length (chars s)) ++ s

-- the sign of a number, or what stands in its place
abbrev pub sign : Flags → Bool → List ℕ
sign flags negative =
    if negative then codes "-" else (if flags.plus then codes "+" else (if flags.space then codes " " else []))

-- zeros between what stands before the digits of a number and these
abbrev pub with_zeros : ℕ → List ℕ → List ℕ → List ℕ
with_zeros width head digits = head ++ (zeros (width - length (head ++ digits)) ++ digits)

-- a number up to a width: with zeros where spaces do not stand behind it
unfoldable pub numeral : Directive → List ℕ → List ℕ → List ℕ
numeral d head digits =
    if d.flags.zero && not d.flags.left then with_zeros d.width head digits else padded d.flags.left d.width (head ++ digits)

-- at least so many digits
abbrev pub at_least : Option ℕ → List ℕ → List ℕ
at_least None digits = digits
at_least (Some n) digits = zeros (n - length digits) ++ digits

-- at most so many characters
abbrev pub at_most : Option ℕ → List ℕ → List ℕ
at_most None s = s
at_most (Some n) s = encode_utf8_all (take n (chars s))
