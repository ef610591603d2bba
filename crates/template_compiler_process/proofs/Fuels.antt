-- The laws of fuel.
use Rattle.std.proofs.Common.{ℕ, ◌-◌, ◌≤◌, inl, inr, true, false, nat_le, None, Some, List, ◌++◌, ◌∷◌, [], refl, sym, ◌∙◌, arith}
use Rattle.std.specs.Prelude.{if◌then◌else◌}
use Rattle.std.proofs.lemmas.Bool.Decides.{nat_tests}
use Rattle.template_values_errors.specs.declared.ErrorKind.TheVariants.{OutOfFuel}
use Rattle.template_compiler_process.specs.Drive.{End, faults}
use Rattle.template_compiler_process.specs.Trace.{Item, Run, price_of}
use Rattle.template_compiler_process.specs.Fuel.{cut, items_before, wraps_at, FuelAddsUp, Lasts, EnoughIsEnough, WritesBeginning, IsSameRun, CutAlike}
use Rattle.template_compiler_process.proofs.Cuts.{text-cut}
use Rattle.template_compiler_process.proofs.Behind.{cut_whole}

pub adds_up : (S : Type 0) → FuelAddsUp S
adds_up S n r = grind (arith, nat_tests)

within : (n m price : ℕ) → Lasts n price → n ≤ m → price ≤ m - 1
within n m price (inl none) more = omega arith
within n m price (inr less) more = omega arith

pub enough : (S : Type 0) → EnoughIsEnough S
enough S n m r lasts more = cut_whole m r (within n m (price_of r.items) lasts more)

pub writes_beginning : (S : Type 0) → WritesBeginning S
writes_beginning S n r = text-cut n r

-- a run without the state that it comes to
abbrev stateless : List Item → End → Run (Unit {0})
stateless items end = record { items = items; end = end; after = tt }

-- a cut looks at no state
cut_stateless : {S : Type 0} (n : ℕ) (r : Run S) → IsSameRun (cut n r) (cut n (stateless r.items r.end))
cut_stateless n r =
    elim (nat_le (price_of r.items) (n - 1)) as (λ within. IsSameRun (if within then r else record r { items = items_before (n - 1) r.items; end = faults (wraps_at (n - 1) r.items ++ OutOfFuel ∷ []) }) (if within then stateless r.items r.end else record (stateless r.items r.end) { items = items_before (n - 1) r.items; end = faults (wraps_at (n - 1) r.items ++ OutOfFuel ∷ []) })) [
      | true ↦ (refl, refl)
      | false ↦ (refl, refl)
    ]

pub cut_alike : (S T : Type 0) → CutAlike S T
cut_alike S T None r q same = same
cut_alike S T (Some n) r q same =
    let left = cut_stateless n r in
    let right = cut_stateless n q in (
      left.0 ∙ (λ i. (cut n (stateless (same.0 i) (same.1 i))).items) ∙ sym right.0,
      left.1 ∙ (λ i. (cut n (stateless (same.0 i) (same.1 i))).end) ∙ sym right.1,
    )
