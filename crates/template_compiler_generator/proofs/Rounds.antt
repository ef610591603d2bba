-- The rounds of a loop: they begin with its shape, and come back with it.
use Rattle.std.proofs.Common.{◌≡◌, ℕ, suc, ◌<◌, ◌≤◌, Bool, true, false, cond, List, [], ◌∷◌, length, Option, None, Some, slice_get, refl, sym, ap, subst, ◌∙◌, arith}
use Rattle.std.specs.Prelude.{option_map}
use Rattle.template_compiler_code.specs.Code.{Code, jump, push_loop, iterate}
use Rattle.template_compiler_code_shapes.specs.declared.outline.Opened.{Opened}
use Rattle.template_compiler_code_shapes.specs.Shapes.{Shape, taken, given, opened, loop_opened, innermost_loop}
use Rattle.template_compiler_code_shapes.specs.Effects.{Effect, falling, is_iterate, effect_of}
use Rattle.template_compiler_codegen.proofs.Standing.{StandsAt, instruction_at}
use Rattle.template_compiler_generator.proofs.Segments.{Free, Lands, Goes, goes_to, goes_on, goes_then, goes_dead, goes_with, gate, lands_at}
use Rattle.template_compiler_generator.proofs.Plain.{IsPlain, taken_plain, jumps_back, iterates}

some_is : {A : Type 0} (x y : A) → Some x ≡ Some y → x ≡ y
some_is x y e = cc

-- the loop's shape stands where its rounds end, and where they ask
abbrev pub Returns : ℕ → ℕ → Shape → (ℕ → Option Shape) → Type 0
Returns ends_at place s table = (table ends_at ≡ Some s) × (table place ≡ Some s)

-- the rounds of a loop, from the place behind its `PushLoop`: with the places of their parts as numbers
module _ (code : List Code) (place push ends_at jump_at : ℕ) (s : Shape) where
  abbrev asking : Effect
  asking = record { falls = Some (given 1 s); jumps = Some (ends_at, s); enters = None }

  led_back : (falls : Bool) → place ≤ jump_at → jump_at < ends_at → innermost_loop s.frames ≡ Some push → place ≡ suc push → slice_get code place ≡ Some (iterate ends_at) → StandsAt code jump_at (jump place ∷ [])
      → Goes code place jump_at s (gate falls s) (Returns ends_at place s) → Goes code place (suc jump_at) s None (Returns ends_at place s)
  led_back false low high loop home asks h p = goes_dead code place jump_at (suc jump_at) s (Returns ends_at place s) (omega arith) p
  led_back true low high loop home asks h p =
      let e : Effect = record { falls = None; jumps = Some (place, s); enters = None } in
      goes_then code place jump_at (suc jump_at) s s (Some s) None (Returns ends_at place s) (Lands e) (Returns ends_at place s) p
      (goes_on code jump_at (jump place) s e (instruction_at code jump_at (jump place) [] h) (jumps_back code jump_at place push ends_at s low loop home asks high) refl)
      (λ u g. some_is s u g) (λ table stands flows needs. (needs, lands_at None place s table needs.1))

  -- the asking, a round over the item on top, and the way back
  pub goes_asked : IsPlain code s → innermost_loop s.frames ≡ Some push → place ≡ suc push → slice_get code place ≡ Some (iterate ends_at) → ends_at ≤ length code → suc jump_at ≡ ends_at → StandsAt code jump_at (jump place ∷ [])
      → (falls : Bool) → Goes code (suc place) jump_at (given 1 s) (gate falls s) (Returns ends_at place s) → Goes code place ends_at s (Some s) Free
  goes_asked plain loop home asks within last h falls round =
      let low = round.ordered in
      let N = Returns ends_at place s in
      let is : effect_of code place (iterate ends_at) s ≡ Some asking = ap (λ b. cond b (Some asking) None) (iterates code place ends_at push s plain.1 asks loop home (omega arith) within) in
      let opening : Goes code place jump_at s (gate falls s) N =
      goes_then code place (suc place) jump_at s (given 1 s) (Some (given 1 s)) (gate falls s) (Lands asking) N N (goes_on code place (iterate ends_at) s asking asks is refl) round
      (λ u e. some_is (given 1 s) u e) (λ table stands flows needs. (lands_at (Some (given 1 s)) ends_at s table needs.0, needs)) in
      goes_to code place (suc jump_at) ends_at s (Some s) Free last
      (goes_with code place (suc jump_at) s None (Some s) N Free (led_back falls (omega arith) (omega arith) loop home asks h opening) (λ table flows u e. absurd cc)
      (λ table stands flows needs. (let P : ℕ → Type 0 = λ n. table n ≡ Some s in subst P last (flows s refl), stands)))

-- a loop's frame is opened
pub pushes : (code : List Code) (flags place mid ends : ℕ) (s : Shape) (frame : Opened) → loop_opened flags place s ≡ frame → IsPlain code s → mid ≡ suc place → slice_get code mid ≡ Some (iterate ends)
    → effect_of code place (push_loop flags) (given 1 s) ≡ Some (falling (opened frame s))
pushes code flags place mid ends s frame is plain next at =
    let there : slice_get code (suc place) ≡ Some (iterate ends) = ap (slice_get code) (sym next) ∙ at in
    ap (λ o. cond (is_iterate o) (option_map (λ below. falling (opened (loop_opened flags place below) below)) (taken 1 (given 1 s))) None) there
    ∙ ap (option_map (λ below. falling (opened (loop_opened flags place below) below))) (taken_plain 1 s plain.0)
    ∙ ap (λ o. Some (falling (opened o s))) is
