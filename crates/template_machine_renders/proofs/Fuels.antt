-- What a fuel makes of a run whose first items it pays.
use Rattle.std.proofs.Common.{◌≡◌, ℕ, ◌+◌, ◌-◌, ◌≤◌, inl, inr, List, [], ◌∷◌, ◌++◌, Option, None, Some, refl, sym, ap, ◌∙◌, arith}
use Rattle.template_values_errors.specs.declared.ErrorKind.{ErrorKind}
use Rattle.template_values_errors.specs.declared.ErrorKind.TheVariants.{OutOfFuel}
use Rattle.template_compiler_process.specs.Drive.{faults}
use Rattle.template_compiler_process.specs.Fuel.{Lasts, cut, under}
use Rattle.template_compiler_process.specs.Trace.{Item, paid, Run, behind, price_of}
use Rattle.template_compiler_process.proofs.Cuts.{price-append}
use Rattle.template_compiler_process.proofs.Behind.{cut-behind, cut_first, cut_whole, remaining-behind, remaining_first, remaining_whole}
use Rattle.template_machine_going.specs.Paying.{Paid, IsSpent}
use Rattle.template_machine_renders.specs.Renders.{IsShort, leaves}

-- a run that is paid stays as it is
pub lasts : {S : Type 0} (fuel left : Option ℕ) (r : Run S) → Paid (price_of r.items) fuel left → under fuel r ≡ r
lasts None None r pays = refl
lasts (Some n) (Some k) r pays = cut_whole n r pays.1
lasts None (Some k) r pays = absurd pays
lasts (Some n) None r pays = absurd pays

-- and leaves the rest
pub rests : {S : Type 0} (fuel left : Option ℕ) (r : Run S) → Paid (price_of r.items) fuel left → left ≡ leaves fuel r
rests None None r pays = refl
rests (Some n) (Some k) r pays =
    let less : k ≡ n - price_of r.items = omega (arith, pays.0) in
    ap (λ (m : ℕ). Some m) (less ∙ sym (remaining_whole n r pays.1))
rests None (Some k) r pays = absurd pays
rests (Some n) None r pays = absurd pays

-- a fuel that is spent ends the run at its next step
pub ends_spent : {S : Type 0} (fuel left : Option ℕ) (items : List Item) (wraps : List ErrorKind) (q : Run S) → Paid (price_of items) fuel left → IsSpent left
    → under fuel (behind items (behind (paid wraps ∷ []) q)) ≡ behind items (record { items = []; end = faults (wraps ++ OutOfFuel ∷ []); after = q.after })
ends_spent (Some n) (Some k) items wraps q pays spent =
    cut-behind n items (behind (paid wraps ∷ []) q) pays.1 ∙ ap (behind items) (cut_first (n - price_of items) wraps q (omega (arith, pays.0, spent)))
ends_spent None None items wraps q pays spent = absurd spent
ends_spent None (Some k) items wraps q pays spent = absurd pays
ends_spent (Some n) None items wraps q pays spent = absurd pays

-- and nothing of it is left
pub spent_leaves : {S : Type 0} (fuel left : Option ℕ) (items : List Item) (wraps : List ErrorKind) (q : Run S) → Paid (price_of items) fuel left → IsSpent left
    → leaves fuel (behind items (behind (paid wraps ∷ []) q)) ≡ Some 0
spent_leaves (Some n) (Some k) items wraps q pays spent =
    ap (λ (m : ℕ). Some m) (remaining-behind n items (behind (paid wraps ∷ []) q) pays.1 ∙ remaining_first (n - price_of items) wraps q (omega (arith, pays.0, spent)))
spent_leaves None None items wraps q pays spent = absurd spent
spent_leaves None (Some k) items wraps q pays spent = absurd pays
spent_leaves (Some n) None items wraps q pays spent = absurd pays

-- it does not last for that
lasts_never : (n price : ℕ) → n ≤ price → 1 ≤ price → Lasts n price → ⊥
lasts_never n price over some (inl none) = omega (arith, some, none)
lasts_never n price over some (inr less) = omega (arith, over, less)

pub short_spent : {S : Type 0} (fuel left : Option ℕ) (items : List Item) (wraps : List ErrorKind) (q : Run S) → Paid (price_of items) fuel left → IsSpent left
    → IsShort fuel (behind items (behind (paid wraps ∷ []) q))
short_spent (Some n) (Some k) items wraps q pays spent =
    let all : price_of (items ++ paid wraps ∷ q.items) ≡ price_of items + (1 + price_of q.items) = price-append items (paid wraps ∷ q.items) in
    lasts_never n (price_of (items ++ paid wraps ∷ q.items)) (omega (arith, all, pays.0, spent)) (omega (arith, all))
short_spent None None items wraps q pays spent = absurd spent
short_spent None (Some k) items wraps q pays spent = absurd pays
short_spent (Some n) None items wraps q pays spent = absurd pays

-- what is paid stays its beginning
pub begins : {S : Type 0} (fuel left : Option ℕ) (items : List Item) (q : Run S) → Paid (price_of items) fuel left
    → (rest : Run S) × (under fuel (behind items q) ≡ behind items rest)
begins None None items q pays = (q, refl)
begins (Some n) (Some k) items q pays = (cut (n - price_of items) q, cut-behind n items q pays.1)
begins None (Some k) items q pays = absurd pays
begins (Some n) None items q pays = absurd pays
