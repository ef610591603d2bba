-- Lemmas on the number of words.
use Rattle.std.proofs.Common.{◌≡◌, ◌≤◌, ◌+◌, ℕ, Bool, List, ◌++◌, length, chars, encode_utf8, IsUtf8, ap, ◌∙◌, arith, cond, length-append}
use Rattle.std.proofs.lemmas.Str.{chars_past_char, chars-nil, length-encode, len_utf8_bounds}
use Rattle.std.proofs.lemmas.List.{nil_from_length}
use Rattle.template_builtins_layout.specs.Words.{begins_word, is_word_character, words_from}

pub words_none : (inside : Bool) (s : List ℕ) → length s ≡ 0 → words_from inside s ≡ 0
unfolding words_from
words_none inside s none = rw (ap chars (nil_from_length s none) ∙ chars-nil)

pub words_next : (inside : Bool) (s rest : List ℕ) (c : ℕ) → IsUtf8 s → s ≡ encode_utf8 c ++ rest
    → words_from inside s ≡ cond (begins_word inside c) 1 0 + words_from (is_word_character c) rest
unfolding words_from
words_next inside s rest c utf8 parts = rw (chars_past_char s rest c utf8 parts)

-- a character is a byte or more
pub shorter : (s rest : List ℕ) (c : ℕ) → s ≡ encode_utf8 c ++ rest → length rest + 1 ≤ length s
shorter s rest c parts = omega (arith, ap length parts, length-append (encode_utf8 c) rest, length-encode c, (len_utf8_bounds c).0)

-- one word more where one begins
pub words_more : (count more : ℕ) (begins after inside : Bool) (s rest : List ℕ) (c total : ℕ)
    → begins ≡ begins_word inside c → after ≡ is_word_character c → IsUtf8 s → s ≡ encode_utf8 c ++ rest
    → count + words_from inside s ≡ total → more ≡ count + cond begins 1 0 → more + words_from after rest ≡ total
words_more count more begins after inside s rest c total is goes utf8 parts held grown =
    let next = words_next inside s rest c utf8 parts in
    let same : more ≡ count + cond (begins_word inside c) 1 0 = grown ∙ ap (λ (b : Bool). count + cond b 1 0) is in
    rw goes (omega arith)
