-- Where a place stands in a source. Lines and columns stop at 65535, offsets at 2^32 - 1.
use Rattle.std.specs.Prelude.{◌≡◌, ℕ, ◌+◌, ◌-◌, ◌*◌, ◌/◌, ◌%◌, ◌^◌, min, List, length, fold, count_by}
use Rattle.template_compiler_tokens.specs.Bytes.{is_newline, next_column}
use Rattle.template_compiler_tree.specs.declared.span.Span.{Span}
use Rattle.template_compiler_tokens.specs.declared.place.Place.{Place}

-- a line is one more than the newlines before the place
abbrev pub line_behind : List ℕ → ℕ
line_behind before = 1 + count_by is_newline before

unfoldable pub column_behind : List ℕ → ℕ
column_behind before = fold next_column 0 before

-- the place stands directly behind the text
pub record IsBehind (before : List ℕ) (place : Place) : Type 0 where
  pub line : place.line ≡ min (line_behind before) 65535
  pub column : place.column ≡ min (column_behind before) 65535
  pub offset : place.offset ≡ min (length before) (2 ^ 32 - 1)

-- the span starts behind the one text and ends behind the other
pub record IsBetween (start end : List ℕ) (span : Span) : Type 0 where
  pub start_line : span.start_line ≡ min (line_behind start) 65535
  pub start_col : span.start_col ≡ min (column_behind start) 65535
  pub start_offset : span.start_offset ≡ min (length start) (2 ^ 32 - 1)
  pub end_line : span.end_line ≡ min (line_behind end) 65535
  pub end_col : span.end_col ≡ min (column_behind end) 65535
  pub end_offset : span.end_offset ≡ min (length end) (2 ^ 32 - 1)

-- that one span
abbrev pub span_between : List ℕ → List ℕ → Span
span_between start end = record {
  start_line = min (line_behind start) 65535;
  start_col = min (column_behind start) 65535;
  start_offset = min (length start) (2 ^ 32 - 1);
  end_line = min (line_behind end) 65535;
  end_col = min (column_behind end) 65535;
  end_offset = min (length end) (2 ^ 32 - 1);
}

-- a place in one number: its line and its column take 16 bits each, its offset those above them
abbrev pub packed_of : Place → ℕ
packed_of place = place.line + place.column * 65536 + place.offset * 4294967296

-- the place in a number
abbrev pub place_in : ℕ → Place
place_in n = record { line = n % 65536; column = n / 65536 % 65536; offset = n / 4294967296 }
