-- The names and values of attributes.
use Rattle.std.specs.Prelude.{ℕ, ◌==◌, ◌||◌, Bool, true, false, List, chars, drop, encode_utf8_all, if◌then◌else◌}
use Rattle.std.specs.Char.{is_whitespace}
use Rattle.std.specs.List.{list_any}
use Rattle.template_values_model.specs.Val as value
use Rattle.template_values_model.specs.Val.{Val}

-- white space and / > = stand in no name
abbrev pub is_barred : ℕ → Bool
is_barred c = is_whitespace c || (c == 47 || (c == 62 || c == 61))

abbrev pub has_barred : List ℕ → Bool
has_barred s = list_any is_barred (chars s)

-- none and undefined make no attribute
abbrev pub is_absent : Val → Bool
is_absent value.none = true
is_absent value.undefined = true
is_absent value.silent_undefined = true
is_absent _ = false

-- without the first character
abbrev pub without_first : List ℕ → List ℕ
without_first s = encode_utf8_all (drop 1 (chars s))

-- without the first space where none is wanted
abbrev pub spaced : Bool → List ℕ → List ℕ
spaced wanted s = if wanted then s else without_first s
