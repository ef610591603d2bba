-- The places of a slice are places of its list.
use Rattle.std.proofs.Common.{◌≡◌, ℕ, zero, suc, ◌+◌, ◌*◌, ◌/◌, ◌<◌, ◌≤◌, ℤ, pos, negsuc, ◌+ℤ◌, ◌-ℤ◌, ◌*ℤ◌, ◌≤ℤ◌, ◌<ℤ◌, refl, ap, ◌∙◌, arith, List, [], ◌∷◌, ◌++◌, Some, add-one, encode_utf8, encode_utf8_all}
use Rattle.std.specs.Option.{option_to_list}
use Rattle.std.proofs.lemmas.List.{append-nil}
use Rattle.std.proofs.lemmas.Str.{encodes-append}
use Rattle.std.specs.Int.{div_ceil}
use Rattle.std.proofs.Math.Nat.{mul-le-mul_right}
use Rattle.std.proofs.lemmas.Grind.{div_ceil_times}
use Rattle.std.proofs.lemmas.Int.{ints}
use Rattle.template_values_operators.specs.Slices.{lowest, highest, steps_within, step_count, item_at, picked}

pub div_ceil-le : (d s : ℕ) → 0 < s → div_ceil d s ≤ d
div_ceil-le d s apart =
    let whole = mul-le-mul_right (d / s) apart in
    omega (arith, whole)

pub steps_below : (d s k : ℕ) → 0 < s → k < div_ceil d s → k * s < d
steps_below d s k apart before =
    omega (arith, (div_ceil_times d s apart).1, mul-le-mul_right s before)

forward_below : (d : ℤ) (s k : ℕ) → 0 < s → k < steps_within d s → pos (k * s) <ℤ d
forward_below (pos d) s k apart before = let below = steps_below d s k apart before in omega (arith, ints, below)
forward_below (negsuc d) s k apart before = absurd (omega arith)

-- the start and the stop lie where a slice with this step may have them
abbrev pub AreBounds : ℤ → ℕ → ℤ → ℤ → Type 0
AreBounds step n start stop = (lowest step ≤ℤ start) × (start ≤ℤ highest step n) × (lowest step ≤ℤ stop) × (stop ≤ℤ highest step n)

pub within : (start stop step : ℤ) (n k : ℕ) → (step ≡ pos 0 → ⊥) → AreBounds step n start stop → k < step_count start stop step
    → (pos 0 ≤ℤ (start +ℤ pos k *ℤ step)) × ((start +ℤ pos k *ℤ step) <ℤ pos n)
within start stop (pos zero) n k apart bounds before = absurd (apart refl)
within start stop (pos (suc s)) n k apart (low, _, _, high) before =
    let far = forward_below (stop -ℤ start) (suc s) k (omega arith) before in (omega (arith, ints, far), omega (arith, ints, far))
within start stop (negsuc s) n k apart (_, high, low, _) before =
    let far = forward_below (start -ℤ stop) (suc s) k (omega arith) before in (omega (arith, ints, far), omega (arith, ints, far))

-- one more item behind those that were picked
pub picked_next : {X : Type 0} → (xs : List X) (start step : ℤ) (k : ℕ) (x : X) → item_at xs (start +ℤ pos k *ℤ step) ≡ Some x
    → picked xs start step (k + 1) ≡ picked xs start step k ++ x ∷ []
picked_next xs start step k x has = rw add-one (ap (λ o. picked xs start step k ++ option_to_list o) has)

-- one more character behind those that were picked
pub text_next : (cs : List ℕ) (start step : ℤ) (k c : ℕ) → item_at cs (start +ℤ pos k *ℤ step) ≡ Some c
    → encode_utf8_all (picked cs start step (k + 1)) ≡ encode_utf8_all (picked cs start step k) ++ encode_utf8 c
text_next cs start step k c has =
    ap encode_utf8_all (picked_next cs start step k c has)
    ∙ (encodes-append (picked cs start step k) (c ∷ []) ∙ ap (λ bs. encode_utf8_all (picked cs start step k) ++ bs)
    (append-nil (encode_utf8 c)))
