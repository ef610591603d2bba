-- The rounds of a recursive loop that are called again do without what the loop found.
use Rattle.std.proofs.Common.{◌≡◌, ℕ, zero, suc, ◌≤◌, Bool, true, false, cond, List, [], ◌∷◌, ◌++◌, length, map, Option, None, Some, slice_get, refl, sym, ap, subst, ◌∙◌, arith}
use Rattle.std.specs.Prelude.{IsSome, IsSomeAnd, option_map}
use Rattle.template_compiler_process.specs.Process.{Counts, Answer, Process, amiss}
use Rattle.template_compiler_code.specs.Code.{Operand, Code, push_loop}
use Rattle.template_compiler_code.specs.Counting.{counts_before, is_recursive}
use Rattle.template_compiler_code.specs.Prices.{price_of, steps}
use Rattle.template_compiler_code.specs.Steps.{deed, act, exec}
use Rattle.template_compiler_code_shapes.specs.declared.StreamKind.{StreamKind}
use Rattle.template_compiler_code_shapes.specs.declared.StreamKind.TheVariants.{Template, Expression}
use Rattle.template_compiler_code_shapes.specs.Shapes.{Form, form_of, Floor, loop_frame, recursive_frame, Shape, taken, opened, loop_opened}
use Rattle.template_compiler_code_shapes.specs.Effects.{Effect, falling, is_iterate, effect_of}
use Rattle.template_compiler_code_shapes.specs.Streams.{Reached, falls_to, jumps_to, end_of, IsGood}
use Rattle.template_compiler_code_shapes.specs.Rounds.{StaysWithin, GoodRoundsStay}
use Rattle.template_compiler_code_shapes.proofs.Aiming.{within}
use Rattle.template_compiler_code_shapes.proofs.Ending.{Continues, frames_by, past, unstuck_deed}
use Rattle.template_compiler_code_shapes.proofs.Sinking.{Stands, own, Holds, some_open, apart, ContinuesOver, never_over, lasts}

gone : (m : ℕ) → StaysWithin m amiss
gone zero = tt
gone (suc n) = tt

stays_steps : (n price : ℕ) (p : Process) → StaysWithin (suc n) p → StaysWithin (suc n) (steps price p)
stays_steps n zero p h = h
stays_steps n (suc price) p h = stays_steps n price p h

-- where nothing is left open
end_frames : (kind : StreamKind) → (end_of kind).frames ≡ []
end_frames Template = refl
end_frames Expression = refl

some_continues : (P : Effect → Type 0) (o : Option Effect) → IsSome o → ((e : Effect) → o ≡ Some e → P e) → IsSomeAnd o P
some_continues P None some k = absurd (cc)
some_continues P (Some e) some k = k e refl

module _ (under : List Form) (kind : StreamKind) (code : List Code) (good : IsGood kind code) where
  -- from each place that is reached on, over operands that lie above those
  abbrev Runs : (ℕ → List Operand → Process) → Type 0
  Runs next = (n place : ℕ) (s : Shape) (operands : List Operand) → Reached code place s → map form_of operands ++ under ≡ s.operands → Stands (length under) n s.frames
      → StaysWithin (suc n) (next place operands)

  closed_or_not : (next : ℕ → List Operand → Process) → Runs next → (m place : ℕ) (s : Shape) (operands : List Operand) → Reached code place s → map form_of operands ++ under ≡ s.operands
      → Holds (length under) m s.frames → StaysWithin m (next place operands)
  closed_or_not next runs zero place s operands r is holds = tt
  closed_or_not next runs (suc n) place s operands r is holds = runs n place s operands r is holds

  stays_at : (next : ℕ → List Operand → Process) → Runs next → (n place : ℕ) (s : Shape) (operands : List Operand) → Reached code place s → map form_of operands ++ under ≡ s.operands
      → Stands (length under) n s.frames → (before : Counts) (o : Option Code) → slice_get code place ≡ o → StaysWithin (suc n) (act next before o place operands)
  stays_at next runs n place s operands r is stands before None there =
      let last : place ≡ length code = omega (arith, within code place s r, past code place there) in
      let reached : Reached code (length code) s = let P : ℕ → Type 0 = λ q. Reached code q s in subst P last r in
      let none : s.frames ≡ [] = ap (λ (t : Shape). t.frames) (good.over s reached) ∙ end_frames kind in
      absurd (some_open (length under) n s.frames stands none)
  stays_at next runs n place s operands r is stands before (Some c) there =
      let forms : List Form = map form_of operands in
      let m : ℕ = frames_by c (suc n) in
      let full : IsSomeAnd (effect_of code place c s) (ContinuesOver under (StaysWithin m) next place m) =
      some_continues (ContinuesOver under (StaysWithin m) next place m) (effect_of code place c s) (good.fine place s c r there) (λ e leads. record {
        falls = λ t falls above over holds. closed_or_not next runs m (suc place) t above (falls_to r there leads falls) over holds;
        jumps = λ to t jumps above over holds. closed_or_not next runs m to t above (jumps_to r there leads jumps) over holds;
      }) in
      let P : List Form → Type 0 = λ fs. IsSomeAnd (effect_of code place c (record s { operands = fs })) (ContinuesOver under (StaysWithin m) next place m) in
      let over_all : P (forms ++ under) = subst P (sym is) full in
      let later : IsSomeAnd (effect_of code place c (apart under s forms)) (Continues (StaysWithin m) next place) = lasts under StaysWithin code next place s n stands c forms over_all in
      stays_steps n (price_of c) (deed next before c place operands)
      (unstuck_deed (StaysWithin (suc n)) (StaysWithin m) (gone m) code next before c place operands (apart under s forms)
      (λ e k same h. let Q : ℕ → Type 0 = λ q. (a : Answer) → StaysWithin q (k a) in subst Q (sym (same (suc n))) h)
      (λ other same. let Q : ℕ → Type 0 = λ q. IsSomeAnd (effect_of code place c (apart under s forms)) (Continues (StaysWithin q) next place) in subst Q (same (suc n)) later)
      later
      (λ over. absurd (never_over under s forms n stands over)))

  rounds_by : (bound : ℕ) → Runs (exec code bound)
  rounds_by zero n place s operands r is stands = tt
  rounds_by (suc bound) n place s operands r is stands =
      stays_at (exec code bound) (rounds_by bound) n place s operands r is stands (counts_before code place) (slice_get code place) refl

-- what a `PushLoop` leads to
abbrev pushing : ℕ → ℕ → Shape → Effect
pushing flags place below = falling (opened (loop_opened flags place below) below)

pushed : (flags place : ℕ) (b : Bool) (o : Option Shape) → IsSome (cond b (option_map (pushing flags place) o) None)
    → (below : Shape) × (cond b (option_map (pushing flags place) o) None ≡ Some (pushing flags place below))
pushed flags place true (Some below) some = (below, refl)
pushed flags place true None some = absurd (cc)
pushed flags place false o some = absurd (cc)

opened_so : (place : ℕ) (below : Shape) (b : Bool) → b ≡ true
    → Stands (length below.operands) 0
    (cond b (recursive_frame place (record { operands = length below.operands; escapes = below.escapes; captures = below.captures })) (loop_frame place) ∷ below.frames)
opened_so place below b e =
    let low : length below.operands ≤ length below.operands = omega arith in
    let floor : Floor = record { operands = length below.operands; escapes = below.escapes; captures = below.captures } in
    let P : Bool → Type 0 = λ c. Stands (length below.operands) 0 (cond c (recursive_frame place floor) (loop_frame place) ∷ below.frames) in
    subst P (sym e) (own low)

pub rounds_stay : GoodRoundsStay
rounds_stay kind code good place flags s r there recursive bound =
    let led = pushed flags place (is_iterate (slice_get code (suc place))) (taken 1 s) (good.fine place s (push_loop flags) r there) in
    let below : Shape = led.0 in
    let t : Shape = opened (loop_opened flags place below) below in
    rounds_by below.operands kind code good bound 0 (suc place) t [] (falls_to r there led.1 refl) refl (opened_so place below (is_recursive flags) recursive)
