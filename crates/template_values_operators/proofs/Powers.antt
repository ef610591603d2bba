-- What powering by squaring keeps.
use Rattle.std.proofs.Common.{◌≡◌, ℕ, zero, suc, ◌+◌, ◌-◌, ◌*◌, ◌/◌, ◌%◌, ◌^◌, ◌<◌, ◌≤◌, sym, ap, ◌∙◌, arith}
use Rattle.std.proofs.lemmas.Nat.{pow-add}
use Rattle.std.proofs.Math.Nat.{mul_assoc, mul_comm, mul_right_comm, mul-mul-mul_comm, mul-zero, one-mul, one-le-mul, one-le-pow, pow-zero, pow-suc, le-mul_of_pos_right}

-- the factor times the power `left` of `square` is the power of `base`; the factor is 0 only where the square is
pub record Squaring (base exponent factor square left : ℕ) : Type 0 where
  pub whole : factor * square ^ left ≡ base ^ exponent
  pub some : 1 ≤ left
  pub alive : 0 < square → 0 < factor

squared : (s k : ℕ) → (s * s) ^ k ≡ s ^ (k + k)
squared s k = halves k ∙ sym (pow-add s k k)
  where
    halves : (k : ℕ) → (s * s) ^ k ≡ s ^ k * s ^ k
    halves zero = pow-zero (s * s) ∙ sym (ap (λ (x : ℕ). x * x) (pow-zero s))
    halves (suc k) = pow-suc (s * s) k ∙ ap (λ (x : ℕ). x * (s * s)) (halves k) ∙ mul-mul-mul_comm (s ^ k) (s ^ k) s s
        ∙ sym (ap (λ (x : ℕ). x * x) (pow-suc s k))

square_some : (s : ℕ) → 0 < s * s → 0 < s
square_some zero h = omega (arith, h)
square_some (suc s) h = omega arith

pub squaring_starts : (b e : ℕ) → (e ≡ 0 → ⊥) → Squaring b e 1 b e
squaring_starts b e some = record { whole = one-mul (b ^ e); some = omega arith; alive = λ h. omega arith }

pub even_turn : (b e f s k : ℕ) → Squaring b e f s k → 1 < k → (k % 2 ≡ 1 → ⊥) → Squaring b e f (s * s) (k / 2)
even_turn b e f s k kept two even = record {
  whole = ap (λ (x : ℕ). f * x) (squared s (k / 2) ∙ ap (λ (x : ℕ). s ^ x) (omega arith)) ∙ kept.whole;
  some = omega arith;
  alive = λ h. kept.alive (square_some s h);
}

pub odd_turn : (b e f s k : ℕ) → Squaring b e f s k → 1 < k → k % 2 ≡ 1 → Squaring b e (f * s) (s * s) (k / 2)
odd_turn b e f s k kept two odd = record {
  whole = ap (λ (x : ℕ). f * s * x) (squared s (k / 2)) ∙ mul_right_comm f s _ ∙ mul_assoc f _ s
      ∙ ap (λ (x : ℕ). f * x) (sym (pow-suc s (k / 2 + k / 2)) ∙ ap (λ (x : ℕ). s ^ x) (omega arith)) ∙ kept.whole;
  some = omega arith;
  alive = λ h. one-le-mul (kept.alive (square_some s h)) (square_some s h);
}

-- the last turn gives the power
pub last_turn : (b e f s k : ℕ) → Squaring b e f s k → k ≤ 1 → f * s ≡ b ^ e
last_turn b e f s k kept one =
    ap (λ (x : ℕ). f * x) (sym (ap (λ (x : ℕ). s ^ x) (omega (arith, kept.some)) ∙ pow-suc s 0 ∙ ap (λ (x : ℕ). x * s) (pow-zero s)
    ∙ one-mul s)) ∙ kept.whole

factor_some : (f s : ℕ) → 0 < f * s → 0 < s
factor_some f zero h = absurd (omega (arith, h, mul-zero f))
factor_some f (suc s) h = omega arith

-- what is at most the factor times the square is at most the power
pub product_below : (b e f s k m : ℕ) → Squaring b e f s k → 0 < m → m ≤ f * s → m ≤ b ^ e
product_below b e f s k m kept some low =
    let square : 0 < s = factor_some f s (omega (arith, some, low)) in
    let rest : f * s * s ^ (k - 1) ≡ f * s ^ k =
    mul_right_comm f s (s ^ (k - 1)) ∙ mul_assoc f (s ^ (k - 1)) s
    ∙ ap (λ (x : ℕ). f * x) (sym (pow-suc s (k - 1)) ∙ ap (λ (x : ℕ). s ^ x) (omega (arith, kept.some))) in
    omega (arith, low, le-mul_of_pos_right (f * s) (one-le-pow (k - 1) s square), rest, kept.whole)

-- what is at most the square is at most the power
pub square_below : (b e f s k m : ℕ) → Squaring b e f s k → 0 < m → m ≤ s → m ≤ b ^ e
square_below b e f s k m kept some low =
    product_below b e f s k m kept some (omega (arith, low, mul_comm f s, le-mul_of_pos_right s (kept.alive (omega (arith, some, low)))))
