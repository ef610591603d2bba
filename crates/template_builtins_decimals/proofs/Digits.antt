-- Texts of digits.
use Rattle.std.proofs.Common.{arith, ◌≡◌, ℕ, zero, suc, ◌<◌, true, ltb, List, [], ◌∷◌, ◌++◌, length, take, drop, set, replicate, get_or, IsUtf8, lit<}
use Rattle.std.proofs.lemmas.Bool.{and_parts, ltb-true}
use Rattle.std.proofs.lemmas.Fmt.{IsAscii-from_digits}
use Rattle.std.proofs.lemmas.Str.{IsUtf8-from_ascii}
use Rattle.std.specs.Char.{digit_value, is_digit}
use Rattle.std.specs.List.{list_all}
use Rattle.std.specs.Str.Parse.{AllDigits}
use Rattle.template_builtins_numbers.specs.Wholes.{are_digits}

all_from : (s : List ℕ) → list_all (λ c. is_digit c 10) s ≡ true → AllDigits 10 s
all_from [] h = tt
all_from (c ∷ cs) h =
    let p = and_parts (is_digit c 10) (list_all (λ d. is_digit d 10) cs) h in (ltb-true (digit_value c) 10 p.0, all_from cs p.1)

pub digits_from_test : (s : List ℕ) → are_digits 10 s ≡ true → AllDigits 10 s
unfolding are_digits
digits_from_test s h = all_from s (and_parts (ltb 0 (length s)) (list_all (λ c. is_digit c 10) s) h).1

pub digits_take : (n : ℕ) (s : List ℕ) → AllDigits 10 s → AllDigits 10 (take n s)
digits_take zero s h = tt
digits_take (suc n) [] h = tt
digits_take (suc n) (c ∷ cs) h = (h.0, digits_take n cs h.1)

pub digits_drop : (n : ℕ) (s : List ℕ) → AllDigits 10 s → AllDigits 10 (drop n s)
digits_drop zero s h = h
digits_drop (suc n) [] h = tt
digits_drop (suc n) (c ∷ cs) h = digits_drop n cs h.1

pub digits_append : (xs ys : List ℕ) → AllDigits 10 xs → AllDigits 10 ys → AllDigits 10 (xs ++ ys)
digits_append [] ys h k = k
digits_append (x ∷ xs) ys h k = (h.0, digits_append xs ys h.1 k)

pub digits_zeros : (n : ℕ) → AllDigits 10 (replicate n 48)
digits_zeros zero = tt
digits_zeros (suc n) = (lit< tt, digits_zeros n)

pub digits_set : (s : List ℕ) (i c : ℕ) → AllDigits 10 s → digit_value c < 10 → AllDigits 10 (set s i c)
digits_set [] i c h k = tt
digits_set (x ∷ xs) zero c h k = (k, h.1)
digits_set (x ∷ xs) (suc i) c h k = (h.0, digits_set xs i c h.1 k)

pub digits_utf8 : (s : List ℕ) → AllDigits 10 s → IsUtf8 s
digits_utf8 s h = IsUtf8-from_ascii s (IsAscii-from_digits s h)

pub digit_of : (s : List ℕ) (i : ℕ) → AllDigits 10 s → i < length s → digit_value (get_or s i 0) < 10
digit_of [] i d h = absurd (omega arith)
digit_of (x ∷ xs) zero d h = d.0
digit_of (x ∷ xs) (suc i) d h = digit_of xs i d.1 (omega arith)
