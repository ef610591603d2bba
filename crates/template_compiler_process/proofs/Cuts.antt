-- Lemmas on the items of a run and on what a fuel leaves of them.
use Rattle.std.proofs.Common.{◌≡◌, ℕ, ◌+◌, ◌-◌, true, false, nat_le, List, [], ◌∷◌, ◌++◌, zero, suc, refl, sym, ap, ◌∙◌, append_assoc, append-nil, arith}
use Rattle.std.specs.Prelude.{if◌then◌else◌}
use Rattle.template_values_errors.specs.declared.ErrorKind.TheVariants.{OutOfFuel}
use Rattle.template_compiler_process.specs.Drive.{faults}
use Rattle.template_compiler_process.specs.Trace.{Item, paid, written, Run, text_of, price_of}
use Rattle.template_compiler_process.specs.Fuel.{items_before, wraps_at, cut, Begins}

-- the items before a step write a beginning
pub text_before : (steps : ℕ) (items : List Item) → Begins (text_of (items_before steps items)) (text_of items)
text_before steps [] = ([], refl)
text_before steps (written bytes ∷ items) =
    let rest = text_before steps items in
    (rest.0, ap (λ t. bytes ++ t) rest.1 ∙ sym (append_assoc bytes (text_of (items_before steps items)) rest.0))
text_before zero (paid wraps ∷ items) = (text_of items, refl)
text_before (suc steps) (paid wraps ∷ items) = text_before steps items

-- a cut run writes a beginning
pub text-cut : {S : Type 0} (n : ℕ) (r : Run S) → Begins (text_of (cut n r).items) (text_of r.items)
text-cut n r =
    elim (nat_le (price_of r.items) (n - 1)) as (λ within. Begins (text_of (if within then r else record r { items = items_before (n - 1) r.items; end = faults (wraps_at (n - 1) r.items ++ OutOfFuel ∷ []) }).items) (text_of r.items)) [
      | true ↦ ([], sym (append-nil (text_of r.items)))
      | false ↦ text_before (n - 1) r.items
    ]

pub text-append : (items later : List Item) → text_of (items ++ later) ≡ text_of items ++ text_of later
text-append [] later = refl
text-append (paid wraps ∷ items) later = text-append items later
text-append (written bytes ∷ items) later =
    ap (λ t. bytes ++ t) (text-append items later) ∙ sym (append_assoc bytes (text_of items) (text_of later))

pub price-append : (items later : List Item) → price_of (items ++ later) ≡ price_of items + price_of later
price-append [] later = omega arith
price-append (paid wraps ∷ items) later = omega (arith, price-append items later)
price-append (written bytes ∷ items) later = price-append items later
