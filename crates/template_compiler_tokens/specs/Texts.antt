-- Text literals. Texts are lists of bytes: 34 is `"`, 39 `'`, 92 `\`, 117 `u`, 120 `x`.
use Rattle.std.specs.Prelude.{◌≡◌, ℕ, suc, ◌+◌, ◌-◌, ◌*◌, ◌<◌, ◌≤◌, IsTrue, ◌==◌, if◌then◌else◌, List, [], ◌∷◌, ◌++◌, take, drop, slice_index, encode_utf8, Option, None, Some}
use Rattle.std.specs.Char.{digit_value}
use Rattle.template_compiler_tokens.specs.Token.{Token, string, bad, bad_syntax, bad_escape}
use Rattle.template_compiler_tokens.specs.Numbers.{is_digit}

-- the closing quote stands at the place; a `\` takes the byte behind it along
pub data IsClose (quote : ℕ) : List ℕ → ℕ → Type 0 where
  close_here : {b : ℕ} {s : List ℕ} → b ≡ quote → IsClose quote (b ∷ s) 0
  close_behind : {b n : ℕ} {s : List ℕ} → (b ≡ quote → ⊥) → (b ≡ 92 → ⊥) →
      IsClose quote s n → IsClose quote (b ∷ s) (suc n)
  close_behind_escape : {b c n : ℕ} {s : List ℕ} → (b ≡ quote → ⊥) → b ≡ 92 →
      IsClose quote s n → IsClose quote (b ∷ c ∷ s) (suc (suc n))

-- the character that a `\` and this byte stand for: `\` `"` `'` `/` themselves, and b, f, n, r and t
unfoldable pub named_escape : ℕ → Option ℕ
named_escape b =
    if b == 92 then Some 92
    else if b == 34 then Some 34
    else if b == 39 then Some 39
    else if b == 47 then Some 47
    else if b == 98 then Some 8
    else if b == 102 then Some 12
    else if b == 110 then Some 10
    else if b == 114 then Some 13
    else if b == 116 then Some 9
    else None

-- two hexadecimal digits stand at the place, and spell this
pub record HasByte (s : List ℕ) (i n : ℕ) : Type 0 where
  pub high : IsTrue (is_digit 16 (slice_index s i))
  pub low : IsTrue (is_digit 16 (slice_index s (i + 1)))
  pub value : n ≡ 16 * digit_value (slice_index s i) + digit_value (slice_index s (i + 1))

-- four hexadecimal digits stand at the place, and spell this
pub record HasUnit (s : List ℕ) (i n : ℕ) : Type 0 where
  pub high : ℕ
  pub low : ℕ
  pub high_byte : HasByte s i high
  pub low_byte : HasByte s (i + 2) low
  pub value : n ≡ 256 * high + low

abbrev pub IsHighSurrogate : ℕ → Type 0
IsHighSurrogate n = (55296 ≤ n) × (n < 56320)

abbrev pub IsLowSurrogate : ℕ → Type 0
IsLowSurrogate n = (56320 ≤ n) × (n < 57344)

-- what stands behind a `\` is an escape: its character, and how many bytes it takes
pub data IsEscape : List ℕ → ℕ → ℕ → Type 0 where
  named : {s : List ℕ} {c : ℕ} → named_escape (slice_index s 0) ≡ Some c → IsEscape s c 1
  byte : {s : List ℕ} {c : ℕ} → slice_index s 0 ≡ 120 → HasByte s 1 c → IsEscape s c 3
  unit : {s : List ℕ} {c : ℕ} → slice_index s 0 ≡ 117 → HasUnit s 1 c →
      (IsHighSurrogate c → ⊥) → (IsLowSurrogate c → ⊥) → IsEscape s c 5
  pair : {s : List ℕ} {c high low : ℕ} →
      slice_index s 0 ≡ 117 → HasUnit s 1 high → IsHighSurrogate high →
      slice_index s 5 ≡ 92 → slice_index s 6 ≡ 117 → HasUnit s 7 low → IsLowSurrogate low →
      c ≡ 65536 + 1024 * (high - 55296) + (low - 56320) → IsEscape s c 11

-- the text that a literal's inside stands for
pub data Unescapes : List ℕ → List ℕ → Type 0 where
  unescapes_end : Unescapes [] []
  unescapes_byte : {b : ℕ} {s text : List ℕ} → (b ≡ 92 → ⊥) → Unescapes s text → Unescapes (b ∷ s) (b ∷ text)
  unescapes_escape : {b c n : ℕ} {s behind text whole : List ℕ} → b ≡ 92 → IsEscape s c n → behind ≡ drop n s →
      Unescapes behind text → whole ≡ encode_utf8 c ++ text → Unescapes (b ∷ s) whole

-- the token of the literal whose inside begins here, behind its quote, and how many bytes it takes with both quotes.
-- An escape that is none is found where the literal ends
pub data IsText (quote : ℕ) : List ℕ → Token → ℕ → Type 0 where
  closed_text : {s text : List ℕ} {n width : ℕ} → IsClose quote s n → Unescapes (take n s) text →
      width ≡ n + 2 → IsText quote s (string text) width
  bad_text : {s : List ℕ} {n : ℕ} → IsClose quote s n → ((text : List ℕ) → Unescapes (take n s) text → ⊥) →
      IsText quote s (bad bad_escape) 0
  open_text : {s : List ℕ} → ((n : ℕ) → IsClose quote s n → ⊥) → IsText quote s (bad bad_syntax) 0
