-- What the scanner answers.
use Rattle.std.specs.Prelude.{◌≡◌, ℕ, true, false, ◌⊎◌, ◌+◌, ◌++◌, List, Option, None, Some, Result, Ok, Err, take, drop, slice_index, String, string_bytes, encode_utf8}
use Rattle.std.specs.Borrow.{Bor}
use Rattle.std.specs.declared.alloc.Global.{Global}
use Rattle.template_values_errors.specs.declared.ErrorKind.{ErrorKind}
use Rattle.template_values_errors.specs.declared.ErrorKind.TheVariants.{OutOfMemory, BadEscape, SyntaxError}
use Rattle.template_compiler_tokens.specs.Token.{TokenFault, string, bad, bad_syntax}
use Rattle.template_compiler_tokens.specs.declared.token.Token.{Token}
use Rattle.template_compiler_tokens.specs.View.{token_of}
use Rattle.template_compiler_tokens.specs.Left.{kind_of}
use Rattle.template_compiler_tokens.specs.Numbers.{number_at, number_width}
use Rattle.template_compiler_tokens.specs.Texts.{HasUnit, IsLowSurrogate, IsEscape, Unescapes, IsText}
use Rattle.std.specs.Char.{is_ascii_digit}
use Rattle.template_compiler_tokens.specs.Lexical.{IsSign, Begins, class_of, is_name_part, text_class}

-- the token that the text begins with, and how many bytes it takes; or why it begins with none;
-- or want of memory, which a text literal alone takes
abbrev pub Scans : List ℕ → Result (Token × ℕ) ErrorKind → Type 0
Scans s (Ok found) = Begins s (token_of found.0) found.1
Scans s (Err kind) =
    ((fault : TokenFault) × (kind ≡ kind_of fault) × Begins s (bad fault) 0) ⊎
    ((kind ≡ OutOfMemory) × (class_of (slice_index s 0) ≡ text_class))

-- the token of the number that the text begins with, and how many bytes it takes; or why it is none
abbrev pub ScansNumber : List ℕ → Result (Token × ℕ) ErrorKind → Type 0
ScansNumber s (Ok found) = (token_of found.0 ≡ number_at s) × (found.1 ≡ number_width s)
ScansNumber s (Err kind) = (fault : TokenFault) × (kind ≡ kind_of fault) × (number_at s ≡ bad fault)

-- the number that the text begins with is a digit alone: behind it stands neither a point nor what may stand in a name
pub record IsLoneDigit (s : List ℕ) : Type 0 where
  pub digit : is_ascii_digit (slice_index s 0) ≡ true
  pub name : is_name_part (slice_index s 1) ≡ false
  pub point : slice_index s 1 ≡ 46 → ⊥

-- want of memory; or an escape is none, and then the fact holds
abbrev pub IsRefused : Type 0 → ErrorKind → Type 0
IsRefused fact kind = (kind ≡ OutOfMemory) ⊎ ((kind ≡ BadEscape) × fact)

-- the text that a literal's inside stands for; or an escape in it is none; or want of memory
abbrev pub Unescaped : List ℕ → Result (String Global) ErrorKind → Type 0
Unescaped s (Ok text) = Unescapes s (string_bytes text)
Unescaped s (Err kind) = IsRefused ((text : List ℕ) → Unescapes s text → ⊥) kind

-- the escape that stands behind a `\`, by its character's code and how many bytes it takes; or none does
abbrev pub SpellsCode : List ℕ → Option (ℕ × ℕ) → Type 0
SpellsCode s (Some found) = IsEscape s found.0 found.1
SpellsCode s None = (c n : ℕ) → IsEscape s c n → ⊥

-- behind the escape of a high surrogate stands that of this low one
pub record HasLowSurrogate (s : List ℕ) (low : ℕ) : Type 0 where
  pub backslash : slice_index s 5 ≡ 92
  pub letter : slice_index s 6 ≡ 117
  pub digits : HasUnit s 7 low
  pub is_low : IsLowSurrogate low

abbrev pub NoLowSurrogate : List ℕ → Type 0
NoLowSurrogate s = (low : ℕ) → HasLowSurrogate s low → ⊥

-- what a literal's inside stands for up to an escape and with it was added, and what is left of the inside;
-- or the escape is none; or want of memory
abbrev pub TakesEscape : List ℕ → ℕ → List ℕ → List ℕ → Result (Bor (List ℕ)) ErrorKind → Type 0
TakesEscape s i before after (Ok rest) =
    (c : ℕ) × (n : ℕ) × IsEscape (drop (i + 1) s) c n × (rest.now ≡ drop n (drop (i + 1) s)) ×
    (after ≡ (before ++ take i s) ++ encode_utf8 c)
TakesEscape s i before after (Err kind) = IsRefused ((c n : ℕ) → IsEscape (drop (i + 1) s) c n → ⊥) kind

-- the token of the literal whose inside the text is
abbrev pub ReadsText : List ℕ → Result Token ErrorKind → Type 0
ReadsText s (Ok t) = (text : List ℕ) × (token_of t ≡ string text) × Unescapes s text
ReadsText s (Err kind) = IsRefused ((text : List ℕ) → Unescapes s text → ⊥) kind

-- the token of the literal that the text begins with, and how many bytes it takes; or why it is none; or want of memory
abbrev pub ScansText : List ℕ → Result (Token × ℕ) ErrorKind → Type 0
ScansText s (Ok found) = IsText (slice_index s 0) (drop 1 s) (token_of found.0) found.1
ScansText s (Err kind) =
    (kind ≡ OutOfMemory) ⊎ ((fault : TokenFault) × (kind ≡ kind_of fault) × IsText (slice_index s 0) (drop 1 s) (bad fault) 0)

-- the token of the sign that the text begins with, and how many bytes it takes; or none stands there
abbrev pub ScansSign : List ℕ → Result (Token × ℕ) ErrorKind → Type 0
ScansSign s (Ok found) = IsSign s (token_of found.0) found.1
ScansSign s (Err kind) = (kind ≡ SyntaxError) × IsSign s (bad bad_syntax) 0
