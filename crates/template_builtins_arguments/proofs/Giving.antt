-- When each of the first arguments is given.
use Rattle.std.proofs.Common.{◌≡◌, ℕ, zero, suc, ◌+◌, ◌<◌, ◌⊎◌, inl, inr, Bool, true, false, ◌&&◌, Option, is_some, refl, ap, sym, ◌∙◌, arith, add-one}
use Rattle.std.proofs.Math.Nat.{eq-or-lt_of_le}
use Rattle.template_values_model.specs.Val.{Val}
use Rattle.template_builtins_arguments.specs.Arguments.{are_given}

pub are_given_more : (given : ℕ → Option Val) (i : ℕ) → are_given given (i + 1) ≡ (are_given given i && is_some (given i))
are_given_more given i = rw (add-one i)

and_fails : (a b : Bool) → (a ≡ false) ⊎ (b ≡ false) → (a && b) ≡ false
and_fails true b (inl e) = cc
and_fails true b (inr e) = e
and_fails false b e = refl

-- one of them is missing
pub lacks : (given : ℕ → Option Val) (n i : ℕ) → i < n → is_some (given i) ≡ false → are_given given n ≡ false
lacks given zero i h e = absurd (omega arith)
lacks given (suc n) i h e =
    elim (eq-or-lt_of_le {n = i} {m = n} (omega arith)) [
      | inl q ↦ and_fails (are_given given n) (is_some (given n)) (inr (ap (λ k. is_some (given k)) (sym q) ∙ e))
      | inr q ↦ and_fails (are_given given n) (is_some (given n)) (inl (lacks given n i q e))
    ]
