-- The pieces of a format as a program has them.
use Rattle.std.specs.Prelude.{ℕ, List, option_map, string_bytes}
use Rattle.std.specs.Borrow.{Bor}
use Rattle.template_values_model.specs.Val.{Val}
use Rattle.template_builtins_formats.specs.Formats.{Piece}
use Rattle.template_builtins_formats.specs.declared.formats.Piece as declared

-- a text, and arguments
abbrev pub both : Bor (List ℕ) × Bor (List Val) → List ℕ × List Val
both p = (p.0.now, p.1.now)

abbrev pub seen_piece : declared.Piece → Piece
seen_piece p = record { text = string_bytes p.text; left = option_map both p.left }
