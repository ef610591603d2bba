-- Stretches of a source without newlines and without characters of several bytes.
use Rattle.std.specs.Prelude.{ℕ, ◌+◌, ◌-◌, ◌^◌, ◌≤◌, List, length, take, drop}
use Rattle.template_compiler_tokens.specs.Bytes.{ArePlain}
use Rattle.template_compiler_tokens.specs.SourcePlaces.{IsBehind}
use Rattle.template_compiler_tokens.specs.declared.stretch.Stretch.{Stretch}

-- no column of the stretch is past the last one that is told, and no offset
pub record IsNarrow (stretch : Stretch) : Type 0 where
  pub columns : stretch.first.column + (stretch.end - stretch.begin) ≤ 65535
  pub offsets : stretch.first.offset + (stretch.end - stretch.begin) ≤ 2 ^ 32 - 1

-- the stretch begins at its first place, and up to its end each byte is a character of its line
pub record IsStretch (s : List ℕ) (stretch : Stretch) : Type 0 where
  pub first : IsBehind (take (stretch.begin) s) (stretch.first)
  pub ordered : stretch.begin ≤ stretch.end
  pub within : stretch.end ≤ length s
  pub plain : ArePlain (take (stretch.end - stretch.begin) (drop (stretch.begin) s))
  pub narrow : IsNarrow stretch

-- it begins at the place, or before it
abbrev pub BeginsBy : List ℕ → ℕ → Stretch → Type 0
BeginsBy s i stretch = IsStretch s stretch × (stretch.begin ≤ i)
