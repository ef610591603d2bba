-- The numbers that digits write, digit by digit.
use Rattle.std.proofs.Common.{arith, ◌≡◌, ℕ, zero, suc, ◌+◌, ◌*◌, ◌^◌, ◌<◌, ◌≤◌, Bool, true, false, not, cond, List, ◌∷◌, [], length, drop, get_or, Option, Some, None, pos, neg_ℤ, refl, sym, ap, ◌∙◌}
use Rattle.std.proofs.lemmas.Bool.Decides.{nat_tests}
use Rattle.std.proofs.lemmas.List.{at_drop_more, at_drop_all}
use Rattle.std.proofs.Math.Nat.{mul-le-mul_left}
use Rattle.std.specs.Char.{digit_value}
use Rattle.std.specs.List.{filter}
use Rattle.std.specs.Str.Parse.{digits_value_after}
use Rattle.template_values_operators.specs.Numbers.{in_range}
use Rattle.template_builtins_numbers.specs.Wholes.{IsCounted, digit_after, is_space, signed, signed_counted}

-- the number that the digits write when they follow those of n, `_` apart
abbrev pub value_after : ℕ → ℕ → List ℕ → ℕ
value_after base n s = digits_value_after base n (filter (λ c. not (is_space c)) s)

one_by : (space : Bool) (base n c : ℕ) (rest : List ℕ) → digits_value_after base n (cond (not space) (c ∷ rest) rest) ≡ digits_value_after base (cond space n (n * base + digit_value c)) rest
one_by true base n c rest = refl
one_by false base n c rest = refl

pub value_turn : (base n : ℕ) (s : List ℕ) (k c next : ℕ) → k < length s → c ≡ get_or s k 0 → next ≡ digit_after base n c → value_after base n (drop k s) ≡ value_after base next (drop (k + 1) s)
value_turn base n s k c next h e made =
    at_drop_more (value_after base n) s k 0 h
    ∙ (ap (λ (d : ℕ). value_after base n (d ∷ drop (k + 1) s)) (sym e)
    ∙ (one_by (is_space c) base n c (filter (λ d. not (is_space d)) (drop (k + 1) s))
    ∙ ap (λ (m : ℕ). value_after base m (drop (k + 1) s)) (sym made)))

pub value_ends : (base n : ℕ) (s : List ℕ) (k : ℕ) → length s ≤ k → value_after base n (drop k s) ≡ n
value_ends base n s k h = at_drop_all (value_after base n) s k h

-- more digits make no smaller number
pub grows : (base n : ℕ) (ds : List ℕ) → 1 ≤ base → n ≤ digits_value_after base n ds
grows base n [] h = omega arith
grows base n (c ∷ cs) h =
    let longer = mul-le-mul_left n h in
    let rest = grows base (n * base + digit_value c) cs h in
    omega (arith, longer, rest)

pub value_past : (base n : ℕ) (s : List ℕ) (k c limit : ℕ) → 1 ≤ base → k < length s → c ≡ get_or s k 0 → limit ≤ digit_after base n c → limit ≤ value_after base n (drop k s)
value_past base n s k c limit some h e past =
    let goes = value_turn base n s k c (digit_after base n c) h e refl in
    let more = grows base (digit_after base n c) (filter (λ d. not (is_space d)) (drop (k + 1) s)) some in
    omega (arith, goes, more, past)

past_by : (negative : Bool) (n : ℕ) → 2 ^ 128 ≤ n → None ≡ in_range (cond negative (neg_ℤ (pos n)) (pos n))
past_by true zero h = absurd (omega arith)
past_by true (suc n) h = let large : 2 ^ 127 ≤ n = omega arith in grind (arith, nat_tests)
past_by false n h = let large : 2 ^ 127 ≤ n = omega arith in grind (arith, nat_tests)

-- a number of more than 128 bits is none of the language
pub signed_past : (negative : Bool) (n : ℕ) → IsCounted None n → None ≡ signed negative n
unfolding signed
signed_past negative n h = past_by negative n h

pub counted_signed : (negative : Bool) (m : Option ℕ) (n : ℕ) → IsCounted m n → signed_counted negative m ≡ signed negative n
counted_signed negative None n h = signed_past negative n h
counted_signed negative (Some m) n h = ap (signed negative) h

pub negated_zero : (m : ℕ) → m ≡ 0 → Some (pos 0) ≡ in_range (neg_ℤ (pos m))
negated_zero m h = ap (λ (n : ℕ). in_range (neg_ℤ (pos n))) (sym h)
