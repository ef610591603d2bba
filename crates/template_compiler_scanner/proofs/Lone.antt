-- Numbers of one digit.
use Rattle.std.proofs.Common.{◌≡◌, ℕ, ◌-◌, ◌<◌, true, false, ◌==◌, ◌&&◌, List, [], ◌∷◌, None, take, drop, slice_index, refl, sym, ◌∙◌, arith}
use Rattle.std.specs.Char.{is_ascii_digit}
use Rattle.std.proofs.lemmas.Bool.{false≢true}
use Rattle.std.proofs.lemmas.Bool.Decides.{nat_tests}
use Rattle.template_compiler_tokens.specs.Lexical.{is_name_part}
use Rattle.template_compiler_tokens.specs.Numbers.{is_digit, goes_on, digits_len, with_digit, value_of, named_base, base_by, base_of, prefix_width, begins_fraction, number_at, number_width}
use Rattle.template_compiler_tokens.specs.Token.{number}
use Rattle.template_compiler_scanner.proofs.Digits.{number_found, number_wide}

-- the byte stands in no name, and is no point: no number goes on with it
pub record IsApart (b : ℕ) : Type 0 where
  pub name : is_name_part b ≡ false
  pub point : b ≡ 46 → ⊥

no_base : (b : ℕ) → is_name_part b ≡ false → named_base b ≡ None
unfolding is_name_part named_base
no_base b e = grind (arith, nat_tests)

no_digit : (b next : ℕ) → is_name_part b ≡ false → goes_on 10 b next ≡ false
unfolding is_name_part goes_on is_digit
no_digit b next e = grind (arith, nat_tests)

digit_goes_on : (b next : ℕ) → is_ascii_digit b ≡ true → goes_on 10 b next ≡ true
unfolding goes_on is_digit
digit_goes_on b next e = grind (arith, nat_tests)

digit_is : (b : ℕ) → is_ascii_digit b ≡ true → with_digit 10 0 b ≡ b - 48
unfolding with_digit is_digit
digit_is b e = grind (arith, nat_tests)

apart_no_fraction : (s : List ℕ) → IsApart (slice_index s 0) → begins_fraction s ≡ false
unfolding begins_fraction is_name_part
apart_no_fraction s apart = let name = apart.name in let point = apart.point in grind (arith, nat_tests)

base_ten : (s : List ℕ) → IsApart (slice_index s 1) → base_of s ≡ 10
unfolding base_of base_by
base_ten s apart = rw (no_base (slice_index s 1) (apart.name)) refl

one_digit : (s : List ℕ) → is_ascii_digit (slice_index s 0) ≡ true → IsApart (slice_index s 1) → digits_len 10 s ≡ 1
unfolding digits_len
one_digit [] e apart = absurd (false≢true e)
one_digit (b ∷ []) e apart = rw (digit_goes_on b 0 e) refl
one_digit (b ∷ c ∷ s) e apart = rw (digit_goes_on b c e, no_digit c (slice_index s 0) (apart.name)) refl

one_value : (s : List ℕ) → is_ascii_digit (slice_index s 0) ≡ true → value_of 10 (take 1 s) ≡ slice_index s 0 - 48
unfolding value_of
one_value [] e = absurd (false≢true e)
one_value (b ∷ s) e = digit_is b e

behind_one : (s : List ℕ) → slice_index (drop 1 s) 0 ≡ slice_index s 1
behind_one [] = refl
behind_one (b ∷ s) = refl

module _ (s : List ℕ) (digit : is_ascii_digit (slice_index s 0) ≡ true) (apart : IsApart (slice_index s 1)) where
  no_prefix : prefix_width s ≡ 0
  unfolding prefix_width
  no_prefix = rw (base_ten s apart) refl

  len_is : digits_len (base_of s) (drop (prefix_width s) s) ≡ 1
  len_is = rw (base_ten s apart, no_prefix) (one_digit s digit apart)

  no_float : (base_of s == 10 && begins_fraction (drop (digits_len (base_of s) (drop (prefix_width s) s)) (drop (prefix_width s) s))) ≡ false
  no_float = rw (len_is, base_ten s apart, no_prefix) (apart_no_fraction (drop 1 s) (rw (behind_one s) apart))

  value_is : slice_index s 0 - 48 ≡ value_of (base_of s) (take (digits_len (base_of s) (drop (prefix_width s) s)) (drop (prefix_width s) s))
  value_is = rw (len_is, base_ten s apart, no_prefix) (sym (one_value s digit))

  pub lone_number : slice_index s 0 < 256 → number_at s ≡ number (slice_index s 0 - 48)
  lone_number small = number_found s (slice_index s 0 - 48) no_float value_is (omega arith)

  pub lone_width : number_width s ≡ 1
  lone_width = sym (number_wide s) ∙ rw (len_is, no_prefix) refl
