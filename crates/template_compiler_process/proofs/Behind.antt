-- A fuel, where items that it pays lie before the rest of a run.
use Rattle.std.proofs.Common.{◌≡◌, ℕ, ◌+◌, ◌-◌, ◌≤◌, true, false, nat_le, List, [], ◌∷◌, ◌++◌, zero, suc, refl, ap, ◌∙◌, arith}
use Rattle.std.specs.Prelude.{if◌then◌else◌}
use Rattle.std.proofs.lemmas.Bool.Decides.{nat_tests}
use Rattle.template_values_errors.specs.declared.ErrorKind.{ErrorKind}
use Rattle.template_values_errors.specs.declared.ErrorKind.TheVariants.{OutOfFuel}
use Rattle.template_compiler_process.specs.Drive.{faults}
use Rattle.template_compiler_process.specs.Trace.{Item, paid, written, Run, behind, price_of}
use Rattle.template_compiler_process.specs.Fuel.{items_before, wraps_at, cut, remaining}
use Rattle.template_compiler_process.proofs.Cuts.{price-append}

-- items that come before the step stay
pub items_before-append : (steps : ℕ) (items later : List Item) → price_of items ≤ steps → items_before steps (items ++ later) ≡ items ++ items_before (steps - price_of items) later
items_before-append steps [] later small = ap (λ n. items_before n later) (omega arith)
items_before-append steps (written bytes ∷ items) later small = ap (λ is. written bytes ∷ is) (items_before-append steps items later small)
items_before-append zero (paid wraps ∷ items) later small = absurd (omega arith)
items_before-append (suc steps) (paid wraps ∷ items) later small =
    ap (λ is. paid wraps ∷ is) (items_before-append steps items later (omega arith) ∙ ap (λ n. items ++ items_before n later) (omega arith))

-- the kinds that wrap a fault at the step are of the rest
pub wraps_at-append : (steps : ℕ) (items later : List Item) → price_of items ≤ steps → wraps_at steps (items ++ later) ≡ wraps_at (steps - price_of items) later
wraps_at-append steps [] later small = ap (λ n. wraps_at n later) (omega arith)
wraps_at-append steps (written bytes ∷ items) later small = wraps_at-append steps items later small
wraps_at-append zero (paid wraps ∷ items) later small = absurd (omega arith)
wraps_at-append (suc steps) (paid wraps ∷ items) later small =
    wraps_at-append steps items later (omega arith) ∙ ap (λ n. wraps_at n later) (omega arith)

-- whether the fuel pays for all is whether what is left pays for the rest
within-behind : (n p q : ℕ) → p ≤ n - 1 → nat_le (p + q) (n - 1) ≡ nat_le q ((n - p) - 1)
within-behind n p q small = grind (arith, nat_tests)

-- a fuel cuts behind items that it pays, with what they leave of it
pub cut-behind : {S : Type 0} (n : ℕ) (items : List Item) (r : Run S) → price_of items ≤ n - 1 → cut n (behind items r) ≡ behind items (cut (n - price_of items) r)
cut-behind {S} n items r small =
    let p = price_of items in
    let test : nat_le (price_of (items ++ r.items)) (n - 1) ≡ nat_le (price_of r.items) ((n - p) - 1) =
    ap (λ q. nat_le q (n - 1)) (price-append items r.items) ∙ within-behind n p (price_of r.items) small in
    let less : (n - 1) - p ≡ (n - p) - 1 = omega arith in
    let front : items_before (n - 1) (items ++ r.items) ≡ items ++ items_before ((n - p) - 1) r.items =
    items_before-append (n - 1) items r.items small ∙ ap (λ k. items ++ items_before k r.items) less in
    let wraps : wraps_at (n - 1) (items ++ r.items) ≡ wraps_at ((n - p) - 1) r.items =
    wraps_at-append (n - 1) items r.items small ∙ ap (λ k. wraps_at k r.items) less in
    let late : Run S = record r { items = items_before ((n - p) - 1) r.items; end = faults (wraps_at ((n - p) - 1) r.items ++ OutOfFuel ∷ []) } in
    (λ i. if test i then behind items r else record r { items = front i; end = faults (wraps i ++ OutOfFuel ∷ []) })
    ∙ (elim (nat_le (price_of r.items) ((n - p) - 1)) as (λ b. (if b then behind items r else behind items late) ≡ behind items (if b then r else late)) [ true ↦ refl | false ↦ refl ])

-- and leaves what the rest leaves of that
pub remaining-behind : {S : Type 0} (n : ℕ) (items : List Item) (r : Run S) → price_of items ≤ n - 1 → remaining n (behind items r) ≡ remaining (n - price_of items) r
remaining-behind n items r small =
    let p = price_of items in
    let test : nat_le (price_of (items ++ r.items)) (n - 1) ≡ nat_le (price_of r.items) ((n - p) - 1) =
    ap (λ q. nat_le q (n - 1)) (price-append items r.items) ∙ within-behind n p (price_of r.items) small in
    let less : n - price_of (items ++ r.items) ≡ (n - p) - price_of r.items = omega (arith, price-append items r.items) in
    λ i. if test i then less i else 0

-- a fuel that pays for a run leaves it as it is
pub cut_whole : {S : Type 0} (n : ℕ) (r : Run S) → price_of r.items ≤ n - 1 → cut n r ≡ r
cut_whole n r small =
    let test : nat_le (price_of r.items) (n - 1) ≡ true = grind (arith, nat_tests) in
    λ i. if test i then r else record r { items = items_before (n - 1) r.items; end = faults (wraps_at (n - 1) r.items ++ OutOfFuel ∷ []) }

pub remaining_whole : {S : Type 0} (n : ℕ) (r : Run S) → price_of r.items ≤ n - 1 → remaining n r ≡ n - price_of r.items
remaining_whole n r small =
    let test : nat_le (price_of r.items) (n - 1) ≡ true = grind (arith, nat_tests) in
    λ i. if test i then n - price_of r.items else 0

-- a fuel of at most one stops before the first step
pub cut_first : {S : Type 0} (n : ℕ) (wraps : List ErrorKind) (r : Run S) → n ≤ 1
    → cut n (behind (paid wraps ∷ []) r) ≡ record { items = []; end = faults (wraps ++ OutOfFuel ∷ []); after = r.after }
cut_first {S} n wraps r small =
    let none : n - 1 ≡ 0 = omega arith in
    let test : nat_le (1 + price_of r.items) 0 ≡ false = grind (arith, nat_tests) in
    let late : ℕ → Run S = λ k. record { items = items_before k (paid wraps ∷ r.items); end = faults (wraps_at k (paid wraps ∷ r.items) ++ OutOfFuel ∷ []); after = r.after } in
    (λ i. if nat_le (1 + price_of r.items) (none i) then behind (paid wraps ∷ []) r else late (none i))
    ∙ (λ i. if test i then behind (paid wraps ∷ []) r else late 0)

pub remaining_first : {S : Type 0} (n : ℕ) (wraps : List ErrorKind) (r : Run S) → n ≤ 1 → remaining n (behind (paid wraps ∷ []) r) ≡ 0
remaining_first n wraps r small =
    let test : nat_le (1 + price_of r.items) (n - 1) ≡ false = grind (arith, nat_tests) in
    λ i. if test i then n - (1 + price_of r.items) else 0
