-- How the pieces of a text are written one behind the other.
use Rattle.std.specs.Prelude.{◌≡◌, ◌≤◌, ◌+◌, ℕ, take, ◌/◌, ◌%◌, codes, List, [], ◌∷◌, ◌++◌, ◌⊎◌, Result, Ok, Err}
use Rattle.template_values_errors.specs.declared.ErrorKind.{ErrorKind}
use Rattle.template_values_model.specs.Fault.{Fault, kind_of}
use Rattle.template_values_errors.specs.Memory.{NoMemory}
use Rattle.json.specs.Print.{escape_byte}
use Rattle.std.specs.Char.{digit_char}
use Rattle.std.specs.Str.{IsUtf8}
use Rattle.template_values_forms.specs.Escapes.{control_escape, html, quoted_byte}
use Rattle.template_values_print.specs.declared.pieces.Escape.{Escape}
use Rattle.template_values_print.specs.declared.pieces.Escape.TheVariants.{Known, Braced, Unicode}
use Rattle.template_values_print.specs.declared.pieces.Quoting.{Quoting}
use Rattle.template_values_print.specs.declared.pieces.Quoting.TheVariants.{Printed, Json}
use Rattle.template_values_print.specs.declared.pieces.Markup.{Markup}
use Rattle.template_values_print.specs.declared.pieces.Markup.TheVariants.{Plain, Html}

-- a piece as it is written
abbrev pub encoded : Markup → List ℕ → List ℕ
encoded Plain s = s
encoded Html s = html s

abbrev pub Begins : List ℕ → List ℕ → Type 0
Begins before after = (more : List ℕ) × (after ≡ before ++ more)

-- a text is written but for so many bytes of the block, which are a text and leave room for a reference
pub record Waits (old out block whole : List ℕ) (used : ℕ) : Type 0 where
  pub begins : Begins old out
  pub room : used + 8 ≤ 256
  pub text : IsUtf8 (take used block)
  pub done : out ++ take used block ≡ whole

-- the text is written; or it is refused with the kind of a fault alone, or for want of memory, with a beginning written
abbrev pub Writes : Markup → List ℕ → Result (List ℕ) Fault → Result (Unit {0}) (List ErrorKind) → List ℕ → Type 0
Writes markup before (Ok s) (Ok _) after = after ≡ before ++ encoded markup s
Writes markup before (Ok s) (Err kinds) after = NoMemory kinds × Begins before after
Writes markup before (Err fault) (Ok _) after = ⊥
Writes markup before (Err fault) (Err kinds) after = ((kinds ≡ kind_of fault ∷ []) ⊎ NoMemory kinds) × Begins before after

-- what stands for a byte between quotes: as values print, or as JSON has it
abbrev pub escaped_byte : Quoting → ℕ → List ℕ
escaped_byte Printed = quoted_byte
escaped_byte Json = escape_byte

abbrev pub unicode_escape : ℕ → List ℕ
unicode_escape c = codes "\\u00" ++ digit_char (c / 16) ∷ digit_char (c % 16) ∷ []

abbrev pub escape_text : ℕ → Escape → List ℕ
escape_text c (Known s) = s.now
escape_text c Braced = control_escape c
escape_text c Unicode = unicode_escape c
