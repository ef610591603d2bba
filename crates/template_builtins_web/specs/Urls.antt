-- Texts as they stand in a URL.
use Rattle.std.specs.Prelude.{ℕ, ◌==◌, ◌&&◌, ◌||◌, Bool, List, [], ◌∷◌, codes, if◌then◌else◌}
use Rattle.std.specs.Char.{is_ascii_alphanumeric}
use Rattle.std.specs.List.{flat_map, list_any}
use Rattle.percent_encoding.specs.Percent.{percent_encode_byte}

-- a byte that stays as it is: an ASCII letter or digit, one of _.-~, and / in a path
abbrev pub is_kept : Bool → ℕ → Bool
is_kept in_path b = is_ascii_alphanumeric b || (list_any (λ mark. mark == b) (codes "_.-~") || (in_path && b == 47))

-- the others as % and two hexadecimal digits
abbrev pub escaped_byte : Bool → ℕ → List ℕ
escaped_byte in_path b = if is_kept in_path b then b ∷ [] else percent_encode_byte b

unfoldable pub escaped : Bool → List ℕ → List ℕ
escaped in_path = flat_map (escaped_byte in_path)
