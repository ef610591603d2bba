-- A token takes a byte at least.
use Rattle.std.proofs.Common.{◌≡◌, ℕ, ◌+◌, ◌<◌, inl, inr, Bool, true, false, cond, List, [], ◌∷◌, length, take, drop, refl, ◌∙◌, ap, arith, length-drop, length-take}
use Rattle.std.proofs.lemmas.Bool.{cases_Bool, eqb-true}
use Rattle.std.specs.Prelude.{if◌then◌else◌, ◌||◌, ◌==◌}
use Rattle.std.specs.List.{prefix_len}
use Rattle.std.specs.Char.{is_ascii_digit}
use Rattle.template_compiler_tokens.specs.Token.{Token, bad}
use Rattle.template_compiler_tokens.specs.Numbers.{is_digit, goes_on, digits_len, base_of, prefix_width, number_width}
use Rattle.template_compiler_tokens.specs.Texts.{IsText, closed_text, bad_text, open_text}
use Rattle.template_compiler_tokens.specs.Lexical.{is_name_start, is_name_part, long_sign, short_sign, IsSign, long, short, no_sign, Class, name_class, number_class, text_class, sign_class, class_of, taken, BeginsAs, Begins, token_at}
use Rattle.template_compiler_syntax.specs.Segments.{is_bad}
use Rattle.template_compiler_syntax.proofs.Pieces.{TakesBytes}

empty_sign : {t : Token} {width : ℕ} → IsSign [] t width → is_bad t ≡ false → ⊥
unfolding long_sign short_sign
empty_sign (long e) good = cc
empty_sign (short none e) good = cc
empty_sign (no_sign none nothing) good = cc

empty_begins : (t : Token) (width : ℕ) → Begins [] t width → is_bad t ≡ false → ⊥
unfolding class_of is_name_start
empty_begins t width begins good = empty_sign begins good

sign_long : {s : List ℕ} {t : Token} {width : ℕ} → IsSign s t width → is_bad t ≡ false → 0 < width
sign_long (long e) good = omega arith
sign_long (short none e) good = omega arith
sign_long (no_sign none nothing) good = cc

text_long : {q : ℕ} {s : List ℕ} {t : Token} {width : ℕ} → IsText q s t width → is_bad t ≡ false → 0 < width
text_long (closed_text close inside e) good = omega arith
text_long (bad_text close none) good = cc
text_long (open_text none) good = cc

-- how a class is chosen
chosen_name : (p q r : Bool) → (if p then name_class else if q then number_class else if r then text_class else sign_class) ≡ name_class → p ≡ true
chosen_name true q r e = refl
chosen_name false true r e = cc
chosen_name false false true e = cc
chosen_name false false false e = cc

chosen_number : (p q r : Bool) → (if p then name_class else if q then number_class else if r then text_class else sign_class) ≡ number_class → q ≡ true
chosen_number true q r e = cc
chosen_number false true r e = refl
chosen_number false false true e = cc
chosen_number false false false e = cc

name_first : (b : ℕ) → class_of b ≡ name_class → is_name_start b ≡ true
unfolding class_of
name_first b e = chosen_name (is_name_start b) (is_ascii_digit b) (b == 34 || b == 39) e

number_first : (b : ℕ) → class_of b ≡ number_class → is_ascii_digit b ≡ true
unfolding class_of
number_first b e = chosen_number (is_name_start b) (is_ascii_digit b) (b == 34 || b == 39) e

start_part : (b : ℕ) → is_name_start b ≡ true → is_name_part b ≡ true
unfolding is_name_start is_name_part
start_part b e = grind arith

digit_ten : (b : ℕ) → is_ascii_digit b ≡ true → is_digit 10 b ≡ true
unfolding is_digit
digit_ten b e = grind arith

digits_long : (base b : ℕ) (s : List ℕ) → is_digit base b ≡ true → 0 < digits_len base (b ∷ s)
unfolding digits_len goes_on
digits_long base b s e = rw e (omega arith)

number_long : (b : ℕ) (s : List ℕ) → is_ascii_digit b ≡ true → 0 < number_width (b ∷ s)
unfolding number_width prefix_width
number_long b s e =
    elim (cases_Bool (base_of (b ∷ s) == 10)) [
      | inr other ↦ rw other (omega arith)
      | inl ten ↦
          let base : base_of (b ∷ s) ≡ 10 = eqb-true (base_of (b ∷ s)) 10 ten in
          let long = digits_long (base_of (b ∷ s)) b s (ap (λ n. is_digit n b) base ∙ digit_ten b e) in
          rw ten (omega arith)
    ]

taken_width : (t : Token) (width : ℕ) → is_bad t ≡ false → taken t width ≡ width
taken_width (bad fault) width good = cc
taken_width t width good = refl

begins_as : (c : Class) (b : ℕ) (s : List ℕ) (t : Token) (width : ℕ) → class_of b ≡ c → BeginsAs c (b ∷ s) t width → is_bad t ≡ false → 0 < width
begins_as name_class b s t width e begins good =
    let part = start_part b (name_first b e) in
    let long : 0 < length (take (cond (is_name_part b) (1 + prefix_len is_name_part s) 0) (b ∷ s)) = rw part (omega (arith, length-take (1 + prefix_len is_name_part s) (b ∷ s))) in
    omega (arith, begins.1)
begins_as number_class b s t width e begins good =
    let long = number_long b s (number_first b e) in omega (arith, begins.1, taken_width t (number_width (b ∷ s)) good)
begins_as text_class b s t width e begins good = text_long begins good
begins_as sign_class b s t width e begins good = sign_long begins good

begins_long : (r : List ℕ) (t : Token) (width : ℕ) → Begins r t width → is_bad t ≡ false → (0 < width) × (0 < length r)
begins_long [] t width begins good = absurd (empty_begins t width begins good)
begins_long (b ∷ s) t width begins good = (begins_as (class_of b) b s t width refl begins good, omega arith)

pub takes_bytes : TakesBytes
takes_bytes s i n t (token_at width begins e) good =
    let long = begins_long (drop i s) t width begins good in
    (omega (arith, long.0, e), omega (arith, long.1, length-drop i s))
