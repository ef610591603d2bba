-- The digits before a point that is moved.
use Rattle.std.proofs.Common.{arith, ◌≡◌, ℕ, zero, suc, ◌+◌, ◌*◌, ◌≤◌, ◌<◌, List, [], ◌∷◌, ◌++◌, length, take, get_or, refl, sym, ap, ◌∙◌, length-append}
use Rattle.std.proofs.lemmas.List.{get_or-take, length-take-le}
use Rattle.std.proofs.lemmas.Int.Digits.{digits_value_more}
use Rattle.std.proofs.lemmas.Str.Parse.{digits_value-take-le}
use Rattle.std.specs.Char.{digit_value}
use Rattle.std.specs.Str.Parse.{digits_value}
use Rattle.template_builtins_numbers.specs.Decimals.{zeros, digits_before}

length-zeros : (n : ℕ) → length (zeros n) ≡ n
length-zeros zero = refl
length-zeros (suc n) = ap (λ (k : ℕ). suc k) (length-zeros n)

zeros_at : (n i : ℕ) → get_or (zeros n) i 48 ≡ 48
zeros_at zero i = refl
zeros_at (suc n) zero = refl
zeros_at (suc n) (suc i) = zeros_at n i

-- what stands at a place, and a zero behind them all
padded : (s : List ℕ) (n i : ℕ) → get_or (s ++ zeros n) i 48 ≡ get_or s i 48
padded [] n i = zeros_at n i
padded (c ∷ cs) n zero = refl
padded (c ∷ cs) n (suc i) = padded cs n i

pub length-digits_before : (s : List ℕ) (n : ℕ) → length (digits_before s n) ≡ n
length-digits_before s n =
    length-take-le n (s ++ zeros n) (omega (arith, length-append s (zeros n), length-zeros n))

any_default : (xs : List ℕ) (i d e : ℕ) → i < length xs → get_or xs i d ≡ get_or xs i e
any_default [] i d e h = absurd (omega arith)
any_default (x ∷ xs) zero d e h = refl
any_default (x ∷ xs) (suc i) d e h = any_default xs i d e (omega (arith, h))

digit_there : (s : List ℕ) (n i : ℕ) → i < n → get_or (digits_before s n) i 0 ≡ get_or s i 48
digit_there s n i h =
    any_default (digits_before s n) i 0 48 (omega (arith, length-digits_before s n))
    ∙ (get_or-take n (s ++ zeros n) i 48 h ∙ padded s n i)

-- one digit more
pub moved_more : (s : List ℕ) (n i total d : ℕ) → i < n → total ≡ digits_value 10 (take i (digits_before s n)) → d ≡ get_or s i 48
    → total * 10 + digit_value d ≡ digits_value 10 (take (i + 1) (digits_before s n))
moved_more s n i total d h e is =
    let more = digits_value_more 10 (digits_before s n) i (omega (arith, length-digits_before s n)) in
    let same : digit_value d ≡ digit_value (get_or (digits_before s n) i 0) = ap digit_value (is ∙ sym (digit_there s n i h)) in
    omega (arith, more, same, e)

pub moved_past : (s : List ℕ) (n i total d limit : ℕ) → i < n → total ≡ digits_value 10 (take i (digits_before s n)) → d ≡ get_or s i 48
    → limit ≤ total * 10 + digit_value d → limit ≤ digits_value 10 (digits_before s n)
moved_past s n i total d limit h e is past =
    let more = moved_more s n i total d h e is in
    let whole = digits_value-take-le 10 (digits_before s n) (i + 1) (omega arith) in
    omega (arith, more, whole, past)
