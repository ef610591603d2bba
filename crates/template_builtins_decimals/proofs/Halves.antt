-- Halves of units, by their first digits.
use Rattle.std.proofs.Common.{arith, ◌≡◌, ℕ, ◌+◌, ◌*◌, ◌^◌, ◌<◌, ◌≤◌, leb, List, [], ◌∷◌, length, get_or, sym, ap, ◌∙◌, inl, inr}
use Rattle.std.proofs.lemmas.Bool.{cases_lt, le-leb, lt-leb}
use Rattle.std.proofs.lemmas.Bool.Decides.{nat_tests}
use Rattle.std.proofs.lemmas.Int.Digits.{digits_value-lt}
use Rattle.std.proofs.Math.Nat.{mul-le-mul_right, pow-suc}
use Rattle.std.specs.Char.{digit_value}
use Rattle.std.specs.Str.Parse.{AllDigits, digits_value}
use Rattle.template_builtins_decimals.proofs.Values.{value_cons}

pub half_none : (s : List ℕ) → s ≡ [] → leb (10 ^ length s) (digits_value 10 s * 2) ≡ leb 1 0
half_none s h = ap (λ (x : List ℕ). leb (10 ^ length x) (digits_value 10 x * 2)) h

high : (c : ℕ) → digit_value c < 10 → 53 ≤ c → 5 ≤ digit_value c
high c h k = grind (arith, nat_tests)

low : (c : ℕ) → digit_value c < 10 → c < 53 → digit_value c ≤ 4
low c h k = grind (arith, nat_tests)

half_reached : (d t v : ℕ) → 5 ≤ d → t * 10 ≤ (d * t + v) * 2
half_reached d t v h = let times = mul-le-mul_right t h in omega arith

half_missed : (d t v : ℕ) → d ≤ 4 → v < t → (d * t + v) * 2 < t * 10
half_missed d t v h k = let times = mul-le-mul_right t h in omega arith

-- five or more is the first digit of half a unit
half_begins : (c : ℕ) (cs : List ℕ) → AllDigits 10 (c ∷ cs) → leb 53 c ≡ leb (10 ^ length (c ∷ cs)) (digits_value 10 (c ∷ cs) * 2)
half_begins c cs h =
    let power : 10 ^ length (c ∷ cs) ≡ 10 ^ length cs * 10 = pow-suc 10 (length cs) in
    let value = value_cons c cs in
    elim (cases_lt c 53) [
      | inl below ↦
          let missed = half_missed (digit_value c) (10 ^ length cs) (digits_value 10 cs) (low c h.0 below) (digits_value-lt 10 cs h.1) in
          let less : digits_value 10 (c ∷ cs) * 2 < 10 ^ length (c ∷ cs) = omega (arith, power, value, missed) in
          lt-leb 53 c below ∙ sym (lt-leb (10 ^ length (c ∷ cs)) (digits_value 10 (c ∷ cs) * 2) less)
      | inr above ↦
          let reached = half_reached (digit_value c) (10 ^ length cs) (digits_value 10 cs) (high c h.0 above) in
          let more : 10 ^ length (c ∷ cs) ≤ digits_value 10 (c ∷ cs) * 2 = omega (arith, power, value, reached) in
          le-leb 53 c above ∙ sym (le-leb (10 ^ length (c ∷ cs)) (digits_value 10 (c ∷ cs) * 2) more)
    ]

pub half_begins_at : (s : List ℕ) → AllDigits 10 s → 1 ≤ length s → leb 53 (get_or s 0 0) ≡ leb (10 ^ length s) (digits_value 10 s * 2)
half_begins_at [] d h = absurd (omega arith)
half_begins_at (c ∷ cs) d h = half_begins c cs d
