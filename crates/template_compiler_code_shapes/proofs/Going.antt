-- A good stream goes on from answer to answer: between two of them it runs forward, but for one jump to an `Iterate`, which asks.
use Rattle.std.proofs.Common.{◌≡◌, ℕ, zero, suc, ◌+◌, ◌*◌, ◌-◌, ◌<◌, ◌≤◌, ◌⊎◌, inl, inr, true, false, List, [], ◌∷◌, length, map, Option, None, Some, slice_get, refl, sym, ap, subst, ◌∙◌, arith}
use Rattle.std.specs.Prelude.{IsSomeAnd}
use Rattle.template_compiler_process.specs.Process.{Counts, Ask, asks, Answer, Process, amiss}
use Rattle.template_compiler_code.specs.Code.{Operand, Code}
use Rattle.template_compiler_code.specs.Counting.{counts_before}
use Rattle.template_compiler_code.specs.Prices.{price_of, steps}
use Rattle.template_compiler_code.specs.Steps.{act, exec}
use Rattle.template_compiler_code_shapes.specs.declared.StreamKind.{StreamKind}
use Rattle.template_compiler_code_shapes.specs.Shapes.{Form, form_of, Shape}
use Rattle.template_compiler_code_shapes.specs.Effects.{is_iterate, effect_of}
use Rattle.template_compiler_code_shapes.specs.Streams.{Reached, falls_to, jumps_to, IsGood}
use Rattle.template_compiler_code_shapes.specs.Laws.{LastsFor}
use Rattle.template_compiler_code_shapes.proofs.Aiming.{Jumps, effect_leads}
use Rattle.template_compiler_code_shapes.proofs.Ending.{Continues, shape_over, continues, unstuck_deed}

-- behind one of so many answers
abbrev Behind : ℕ → Process → Type 0
Behind zero p = Unit {0}
Behind (suc n) p = LastsFor n p

gone : (n : ℕ) → Behind n amiss
gone zero = tt
gone (suc n) = tt

asked : (n : ℕ) (e : Ask) (k : Answer → Process) → ((a : Answer) → Behind n (k a)) → LastsFor n (asks e k)
asked zero e k h = tt
asked (suc n) e k h = h

lasts_steps : (n count : ℕ) (p : Process) → LastsFor n p → LastsFor n (steps count p)
lasts_steps n zero p h = h
lasts_steps n (suc count) p h = lasts_steps n count p h

held : {A : Type 0} (xs : List A) (i : ℕ) (x : A) → slice_get xs i ≡ Some x → i < length xs
held [] i x e = absurd cc
held (y ∷ xs) zero x e = omega arith
held (y ∷ xs) (suc i) x e = let h : i < length xs = held xs i x e in omega arith

-- enough instructions for so many answers: as far as the end of the code, or as far as an `Iterate`
abbrev Enough : List Code → ℕ → ℕ → ℕ → Type 0
Enough code n place bound = (n * (length code + 1) + (length code - place) + 1 ≤ bound)
    ⊎ ((n * (length code + 1) + 1 ≤ bound) × (is_iterate (slice_get code place) ≡ true))

one_more : (n x : ℕ) → suc n * x ≡ x + n * x
one_more n x = omega arith

one : (code : List Code) (n place bound : ℕ) → Enough code n place (suc bound) → n * (length code + 1) ≤ bound
one code n place bound (inl h) = omega arith
one code n place bound (inr h) = omega arith

far : (code : List Code) (n place bound : ℕ) → is_iterate (slice_get code place) ≡ false → Enough code n place (suc bound) → n * (length code + 1) + (length code - place) ≤ bound
far code n place bound other (inl h) = omega arith
far code n place bound other (inr h) = absurd cc

some_bound : (code : List Code) (n place : ℕ) → Enough code n place zero → ⊥
some_bound code n place (inl h) = absurd (omega arith)
some_bound code n place (inr h) = absurd (omega arith)

-- where a jump leads, there is enough for the same answers
jumped : (code : List Code) (n place to bound : ℕ) (c : Code) → n * (length code + 1) + (length code - place) ≤ bound → place < length code → Jumps code place to c → Enough code n to bound
jumped code n place to bound c h inside way = by_way way.within way.way
  where
    by_way : to ≤ length code → (place < to) ⊎ (is_iterate (slice_get code to) ≡ true) → Enough code n to bound
    by_way low (inl forward) = inl (omega arith)
    by_way low (inr asks_next) = inr (omega arith, asks_next)

-- where the run may go on: everywhere that is reached, with enough for so many answers
abbrev GoesOn : List Code → ℕ → (ℕ → List Operand → Process) → Type 0
GoesOn code bound next = (n place : ℕ) (s : Shape) (operands : List Operand) → Reached code place s → map form_of operands ≡ s.operands
    → Enough code n place bound → LastsFor n (next place operands)

module _ (kind : StreamKind) (code : List Code) (good : IsGood kind code) where
  behind : (n bound : ℕ) (next : ℕ → List Operand → Process) → GoesOn code bound next → n * (length code + 1) ≤ bound
      → (place : ℕ) (s : Shape) → Reached code place s → (operands : List Operand) → map form_of operands ≡ s.operands → Behind n (next place operands)
  behind zero bound next on h place s r operands is = tt
  behind (suc n) bound next on h place s r operands is =
      let more = one_more n (length code + 1) in
      on n place s operands r is (inl (omega arith))

  lasts_at : (n bound : ℕ) (next : ℕ → List Operand → Process) → GoesOn code bound next → (place : ℕ) (s : Shape) (operands : List Operand)
      → Reached code place s → map form_of operands ≡ s.operands → Enough code n place (suc bound)
      → (before : Counts) (o : Option Code) → slice_get code place ≡ o → LastsFor n (act next before o place operands)
  lasts_at n bound next on place s operands r is enough before None there = tt
  lasts_at n bound next on place s operands r is enough before (Some c) there =
      let room : n * (length code + 1) ≤ bound = one code n place bound enough in
      let inside : place < length code = held code place c there in
      let At : (Process → Type 0) → List Form → Type 0 = λ E forms. IsSomeAnd (effect_of code place c (record s { operands = forms })) (Continues E next place) in
      let later : IsSomeAnd (effect_of code place c (shape_over operands s)) (Continues (Behind n) next place) =
      subst (At (Behind n)) (sym is) (continues (Behind n) next place (effect_of code place c s) (good.fine place s c r there) (λ e leads_on. record {
        falls = λ t falls. behind n bound next on room (suc place) t (falls_to r there leads_on falls);
        jumps = λ to t jumps. behind n bound next on room to t (jumps_to r there leads_on jumps);
      })) in
      let at_once : is_iterate (Some c) ≡ false → IsSomeAnd (effect_of code place c (shape_over operands s)) (Continues (LastsFor n) next place) = λ other.
      let left : n * (length code + 1) + (length code - place) ≤ bound = far code n place bound (ap is_iterate there ∙ other) enough in
      subst (At (LastsFor n)) (sym is) (continues (LastsFor n) next place (effect_of code place c s) (good.fine place s c r there) (λ e leads_on. record {
        falls = λ t falls above forms. on n (suc place) t above (falls_to r there leads_on falls) forms (inl (omega arith));
        jumps = λ to t jumps above forms. on n to t above (jumps_to r there leads_on jumps) forms
            (jumped code n place to bound c left inside ((effect_leads code place c s e there leads_on).jumps to t jumps));
      })) in
      lasts_steps n (price_of c) _ (unstuck_deed (LastsFor n) (Behind n) (gone n) code next before c place operands s (λ e k same h. asked n e k h) (λ other same. at_once other) later (λ e. tt))

  lasts : (bound : ℕ) → GoesOn code bound (exec code bound)
  lasts zero n place s operands r is enough = absurd (some_bound code n place enough)
  lasts (suc bound) n place s operands r is enough =
      lasts_at n bound (exec code bound) (lasts bound) place s operands r is enough (counts_before code place) (slice_get code place) refl

pub goes_on : (kind : StreamKind) (code : List Code) → IsGood kind code → (answers bound place : ℕ) (s : Shape) (operands : List Operand)
    → Reached code place s → map form_of operands ≡ s.operands → (answers + 1) * (length code + 1) ≤ bound
    → LastsFor answers (exec code bound place operands)
goes_on kind code good answers bound place s operands r is enough =
    let more = one_more answers (length code + 1) in
    lasts kind code good bound answers place s operands r is (inl (omega arith))
