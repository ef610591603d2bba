-- Each run of a good stream comes to its end, or to a fault: by the levels that are left, by the items that the innermost loop has left,
-- and by the code that is left.
use Rattle.std.proofs.Common.{◌≡◌, ℕ, zero, suc, pred, ◌+◌, ◌-◌, ◌<◌, ◌≤◌, ◌⊎◌, inl, inr, Bool, true, false, cond, List, [], ◌∷◌, ◌++◌, drop, length, map, Option, None, Some, slice_get, refl, sym, ap, subst, ◌∙◌, arith}
use Rattle.std.proofs.lemmas.Bool.{and_parts, eqb-true, leb-true, ltb-true}
use Rattle.std.proofs.lemmas.List.{length-append}
use Rattle.std.proofs.lemmas.Option.{slice_get_within}
use Rattle.std.specs.Prelude.{IsSome, ◌==◌, ◌&&◌, nat_lt, option_map, is_some}
use Rattle.std.specs.Option.{ForSome}
use Rattle.template_values_errors.specs.declared.modes.AutoEscape.{AutoEscape}
use Rattle.template_values_model.specs.Val.{Val}
use Rattle.template_compiler_process.specs.Process as events
use Rattle.template_compiler_process.specs.Process.{Looping}
use Rattle.template_compiler_code.specs.Code.{Operand, single, counted, counting, closure, Code, build_macro, push_with, pop_frame, push_loop, iterate, push_did_not_iterate, pop_loop_frame, push_auto_escape, pop_auto_escape, begin_capture, end_capture, return}
use Rattle.template_compiler_code.specs.Counting as counts
use Rattle.template_compiler_code.specs.Counting.{counts_before, is_recursive}
use Rattle.template_compiler_code.specs.Prices.{price_of, steps}
use Rattle.template_compiler_code.specs.Steps.{values_in, deed, act, exec}
use Rattle.template_compiler_code.specs.Loops.{is_iterate_past}
use Rattle.template_compiler_code_shapes.specs.declared.StreamKind.{StreamKind}
use Rattle.template_compiler_code_shapes.specs.declared.StreamKind.TheVariants.{Template, Expression}
use Rattle.template_compiler_code_shapes.specs.declared.outline.Floor.{Floor}
use Rattle.template_compiler_code_shapes.specs.declared.outline.Opened.{Opened}
use Rattle.template_compiler_code_shapes.specs.declared.outline.Opened.TheVariants.{With as with_frame, Loop as loop_frame, Recursive as recursive_frame}
use Rattle.template_compiler_code_shapes.specs.Shapes as shapes
use Rattle.template_compiler_code_shapes.specs.Shapes.{Form, form_of, Shape, floor_of, taken, with_escape, with_capture, frame_closed, loop_closed, innermost_loop, is_none_left, is_over}
use Rattle.template_compiler_code_shapes.specs.Effects.{Effect, falling, ending, is_iterate, is_behind, may_lead, may_jump, may_iterate, effect_of}
use Rattle.template_compiler_code_shapes.specs.Streams.{Reached, falls_to, jumps_to, end_of, IsGood}
use Rattle.template_compiler_code_shapes.proofs.Aiming.{within}
use Rattle.template_machine_meaning.specs.World.{Rounds, Loop, Capture, World, empty_frame, counted_loop, depth_of, has_room}
use Rattle.template_machine_meaning.specs.Captures.{capture_begun}
use Rattle.template_machine_meaning.specs.Leaving.{loop_left}
use Rattle.template_machine_meaning.specs.Keys.{standing, Stream, Head}
use Rattle.template_machine_meaning.specs.Blocks.{is_among}
use Rattle.template_machine_meaning.specs.Surroundings.{Programs, rounds_here, is_own, asked_once}
use Rattle.template_machine_meaning.proofs.Keeping.{loops_of, met, IsFramed}
use Rattle.template_machine_codes.specs.Streams.{Codes, IsBodyReached, AreRoundsReached}
use Rattle.template_machine_codes.proofs.Sound.{Sound, Held}
use Rattle.template_machine_codes.proofs.Within.{AllReach}
use Rattle.template_machine_codes.proofs.Making.{macro_reached, loop_reached}
use Rattle.template_machine_codes.proofs.Coming.{Comes, comes_steps, comes_more, comes_over}
use Rattle.template_machine_codes.proofs.Taking as takes
use Rattle.template_machine_codes.proofs.Taking.{over, some_mapped, some_tested}
use Rattle.template_machine_codes.proofs.Stepping.{IsPlain, plain}
use Rattle.template_machine_codes.proofs.Fitting.{Away, nothing_away, least_of, Opens, with_open, loop_open, recursive_open, low_of, enough_open, closed_all, Looped, looped, with_closed, loop_closes, LoopClosed, RoundsOver, Fits, IsBase, fits_on, framed_at, depth_at, fits_loops, fits_framed, fits_counted, fits_left, top_sound, owns, closes}
use Rattle.template_machine_codes.proofs.Scoping.{with_pushed, loop_opened, in_loop, loop_pushed, next_world, last_world, next_loops, last_loops, item_asked, given_none, behind_loop, loop_popped, rounds_left, rest_loops, behind_with, with_loops, with_popped, escaping, escape_pushed, escape_popped, capture_pushed, capture_popped}

-- how many items the innermost loop has left
abbrev left_in : List (Option Loop) → ℕ
left_in (Some l ∷ loops) = length l.items - l.asked
left_in _ = 0

past : {A : Type 0} (xs : List A) (i : ℕ) → slice_get xs i ≡ None → length xs ≤ i
past [] i e = omega arith
past (x ∷ xs) zero e = absurd (cc)
past (x ∷ xs) (suc i) e = let h : length xs ≤ i = past xs i e in omega (arith, h)

-- where a jump leads back: to the `Iterate` of the innermost loop, which leads past the jump
record Back (code : List Code) (place to : ℕ) (frames : List Opened) : Type 0 where
  pub beyond : ℕ
  pub there : slice_get code to ≡ Some (iterate beyond)
  pub past : place < beyond
  pub push : ℕ
  pub loop : innermost_loop frames ≡ Some push
  pub is : to ≡ suc push

iterate_there : (place : ℕ) (o : Option Code) → is_iterate_past place o ≡ true → (beyond : ℕ) × (o ≡ Some (iterate beyond)) × (place < beyond)
iterate_there place (Some (iterate to)) e = (to, refl, ltb-true place to e)
iterate_there place None e = absurd (cc)
iterate_there place (Some _) e = absurd (cc)

behind_there : (to : ℕ) (o : Option ℕ) → is_behind to o ≡ true → (push : ℕ) × (o ≡ Some push) × (to ≡ suc push)
behind_there to (Some push) e = (push, refl, eqb-true to (suc push) e)
behind_there to None e = absurd (cc)

way_of : (code : List Code) (place to : ℕ) (s : Shape) → may_jump code place s to ≡ true → (place < to) ⊎ Back code place to s.frames
way_of code place to s e = by_test (nat_lt place to) refl e
  where
    by_test : (b : Bool) → nat_lt place to ≡ b → cond b (may_lead code to) (is_behind to (innermost_loop s.frames) && is_iterate_past place (slice_get code to)) ≡ true → (place < to) ⊎ Back code place to s.frames
    by_test true less h = inl (ltb-true place to less)
    by_test false not h =
        let parts = and_parts (is_behind to (innermost_loop s.frames)) (is_iterate_past place (slice_get code to)) h in
        let x = iterate_there place (slice_get code to) parts.1 in
        let y = behind_there to (innermost_loop s.frames) parts.0 in
        inr (record { beyond = x.0; there = x.1; past = x.2; push = y.0; loop = y.1; is = y.2 })

some_loop : (o : Option ℕ) (push : ℕ) → o ≡ Some push → IsSome o
some_loop o push e = subst (λ (q : Option ℕ). IsSome q) (sym e) refl

mapped_tested : (f : Shape → Effect) (b : Bool) (t : Shape) → IsSome (option_map f (cond b (Some t) None)) → (b ≡ true) × (option_map f (cond b (Some t) None) ≡ Some (f t))
mapped_tested f true t some = (refl, refl)
mapped_tested f false t some = absurd (cc)

pred_is : (n : ℕ) → 0 < n → pred n + 1 ≡ n
pred_is zero less = absurd (omega (arith, less))
pred_is (suc n) less = omega arith

some_is : {A : Type 0} (x y : A) → Some x ≡ Some y → x ≡ y
some_is x y e = cc

none_left : (forms : List Form) (frames : List Opened) → is_none_left forms frames ≡ true → frames ≡ []
none_left [] [] e = refl
none_left [] (f ∷ frames) e = absurd (cc)
none_left (x ∷ forms) frames e = absurd (cc)

-- the end of each kind of stream has nothing open
end_frames : (kind : StreamKind) → (end_of kind).frames ≡ []
end_frames Template = refl
end_frames Expression = refl

end_escapes : (kind : StreamKind) → (end_of kind).escapes ≡ 0
end_escapes Template = refl
end_escapes Expression = refl

end_captures : (kind : StreamKind) → (end_of kind).captures ≡ 0
end_captures Template = refl
end_captures Expression = refl

-- where a loop has rounds that may be called again, it is recursive, and they are at home here
rounds_given : (w : World) (b : Bool) (number : ℕ) (r : Rounds) → rounds_here w (cond b (Some number) None) ≡ Some r → (b ≡ true) × (record { stream = w.here; number = number } ≡ r)
rounds_given w true number r e = let is : record { stream = w.here; number = number } ≡ r = some_is (record { stream = w.here; number = number }) r e in (refl, is)
rounds_given w false number r e = absurd (cc)

-- what is left at the end of a stream, where that is not the end of a macro's body
abbrev pub LeftAtEnd : StreamKind → Bool → List Val → Type 0
LeftAtEnd kind in_body vs = (length vs ≡ length (end_of kind).operands) ⊎ (in_body ≡ true)

values_left : (kind : StreamKind) (os : List Operand) → map form_of os ++ [] ≡ (end_of kind).operands → length (values_in os) ≡ length (end_of kind).operands
values_left Template [] e = refl
values_left Template (o ∷ os) e = absurd (cc)
values_left Expression [] e = absurd (cc)
values_left Expression (single v ∷ []) e = refl
values_left Expression (single v ∷ o ∷ os) e = absurd (cc)
values_left Expression (counted vs ∷ os) e = absurd (cc)
values_left Expression (counting vs v ∷ os) e = absurd (cc)
values_left Expression (closure number ∷ os) e = absurd (cc)

-- a run that has come to a place, inside of a macro's body or not
pub record At (names : List (List ℕ)) (codes : Codes) (code : List Code) (away : Away) (base : World) (in_body : Bool) (loops : List (Option Loop)) (place : ℕ) (shape : Shape) (operands : List Operand) (w : World) : Type 0 where
  pub reached : Reached code place (over away.forms shape operands)
  pub macro : shape.in_macro ≡ in_body
  pub opens : Opens away loops shape.frames
  pub fits : Fits names codes away base loops shape.escapes shape.captures w

module _ (names : List (List ℕ)) (codes : Codes) (s : Programs) (depth : ℕ) (deeper : AllReach names codes s depth)
    (lists : (name : List ℕ) (h : Head) → s.around.head (standing name) ≡ Some h → is_among name names ≡ true)
    (kind : StreamKind) (code : List Code) (good : IsGood kind code) (in_body : Bool)
    (away : Away) (base : World) (is_code : codes.code base.here ≡ Some code) (is_known : codes.known base.here ≡ true) (is_base : IsBase away base) (deep : depth ≤ least_of away + depth_of base) (keeps : Option (List Val) → World → Type 0) (so : (w : World) → Sound codes w → keeps None w)
    (ends_so : (vs : List Val) (w : World) → away ≡ nothing_away → LeftAtEnd kind in_body vs → Fits names codes away base [] 0 0 w → keeps (Some vs) w)
    (rounds_so : (l : Loop) (w : World) → away.rounds ≡ true → Fits names codes away base (Some l ∷ []) away.escapes away.captures w → keeps (Some []) w) where
  abbrev Runs : ℕ → List Operand → World → Type 0
  Runs to operands v = Comes s v keeps (λ m. exec code m to operands)

  abbrev Here : List (Option Loop) → ℕ → Shape → List Operand → World → Type 0
  Here loops place shape operands w = At names codes code away base in_body loops place shape operands w

  -- an instruction at a place
  acts : (to : ℕ) (c : Code) → slice_get code to ≡ Some c → (operands : List Operand) (v : World)
      → Comes s v keeps (λ m. deed (exec code m) (counts_before code to) c to operands) → Runs to operands v
  acts to c there operands v h =
      comes_more s v keeps (λ m. exec code m to operands) (λ m. steps (price_of c) (deed (exec code m) (counts_before code to) c to operands))
      (λ m. ap (λ (o : Option Code). act (exec code m) (counts_before code to) o to operands) there)
      (comes_steps s v keeps (price_of c) (λ m. deed (exec code m) (counts_before code to) c to operands) h)

  -- what follows the closing of the innermost frame, at no place before one
  abbrev Closing : List (Option Loop) → List Opened → ℕ → Type 0
  Closing [] frames low = Unit {0}
  Closing (o ∷ loops) frames low =
      (place : ℕ) → low ≤ place → (shape : Shape) (operands : List Operand) (w : World) → shape.frames ≡ drop 1 frames → Here loops (suc place) shape operands w → Runs (suc place) operands w

  -- no more levels are left than so many
  abbrev Room : ℕ → List (Option Loop) → Type 0
  Room d loops = s.around.limit ≤ length loops + depth_of base + d

  -- the `Iterate` of the innermost loop stands at no place before one
  abbrev Lowest : ℕ → List Opened → Type 0
  Lowest low frames = (push : ℕ) → innermost_loop frames ≡ Some push → low ≤ suc push

  -- where so many levels, items of the innermost loop, and instructions are left
  abbrev Along : ℕ → ℕ → ℕ → Type 0
  Along d i c =
      (loops : List (Option Loop)) (frames : List Opened) (low : ℕ) → Room d loops → Lowest low frames → left_in loops ≤ i → Closing loops frames low
      → (place : ℕ) → low ≤ place → length code ≤ place + c → (shape : Shape) (operands : List Operand) (w : World) → shape.frames ≡ frames → Here loops place shape operands w → Runs place operands w

  abbrev Inner : ℕ → Type 0
  Inner zero = Unit {0}
  Inner (suc d) = (i c : ℕ) → Along d i c

  abbrev Fewer : ℕ → ℕ → Type 0
  Fewer d zero = Unit {0}
  Fewer d (suc i) = (c : ℕ) → Along d i c

  abbrev Further : ℕ → ℕ → ℕ → Type 0
  Further d i zero = Unit {0}
  Further d i (suc c) = Along d i c

  -- the `Iterate` of the innermost loop
  module _ (to beyond : ℕ) (there : slice_get code to ≡ Some (iterate beyond)) (shape : Shape) (operands : List Operand) (v : World) where
    iterated_by : (l : Loop) (rest : List (Option Loop)) → Here (Some l ∷ rest) to shape operands v → (l.called ≡ true) ⊎ (least_of away ≤ length rest) → Opens away (Some (asked_once l) ∷ rest) shape.frames
        → ((u : Val) (z : World) → slice_get l.items l.asked ≡ Some u → Here (Some (asked_once l) ∷ rest) (suc to) shape (single u ∷ operands) z → Runs (suc to) (single u ∷ operands) z)
        → ((z : World) → Here (Some (asked_once l) ∷ rest) beyond shape operands z → Runs beyond operands z) → Runs to operands v
    iterated_by l rest at may again more last =
        let on : Effect = record { falls = Some (shapes.given 1 (over away.forms shape operands)); jumps = Some (beyond, over away.forms shape operands); enters = None } in
        let t = some_tested (may_iterate code to (over away.forms shape operands) beyond) (Some on) (good.fine to (over away.forms shape operands) (iterate beyond) at.reached there) in
        let is : effect_of code to (iterate beyond) (over away.forms shape operands) ≡ Some on = ap (λ b. cond b (Some on) None) t.0 in
        let own : is_own v l ≡ true = owns names codes away base l rest shape.escapes shape.captures v is_base at.fits may in
        acts to (iterate beyond) there operands v
        (item_asked s v keeps (so v at.fits.sound) l (rest ++ loops_of base.frames) at.fits.frames own (λ u m. exec code m (suc to) (single u ∷ operands)) (λ m. exec code m beyond operands)
        (λ u some. more u (next_world s v keeps (so v at.fits.sound) l (rest ++ loops_of base.frames) at.fits.frames own) some (record {
          reached = falls_to at.reached there is refl;
          macro = at.macro;
          opens = again;
          fits = fits_framed names codes away base (Some l ∷ rest) (Some (asked_once l) ∷ rest) shape.escapes shape.captures v
              (next_world s v keeps (so v at.fits.sound) l (rest ++ loops_of base.frames) at.fits.frames own).frames (next_loops s v keeps (so v at.fits.sound) l (rest ++ loops_of base.frames) at.fits.frames own) (λ h. h) at.fits;
        }))
        (last (last_world s v keeps (so v at.fits.sound) l (rest ++ loops_of base.frames) at.fits.frames own) (record {
          reached = jumps_to at.reached there is refl;
          macro = at.macro;
          opens = again;
          fits = fits_framed names codes away base (Some l ∷ rest) (Some (asked_once l) ∷ rest) shape.escapes shape.captures v
              (last_world s v keeps (so v at.fits.sound) l (rest ++ loops_of base.frames) at.fits.frames own).frames (last_loops s v keeps (so v at.fits.sound) l (rest ++ loops_of base.frames) at.fits.frames own) (λ h. h) at.fits;
        })))

    iterated : (loops : List (Option Loop)) → Here loops to shape operands v → (x : Looped away loops shape.frames)
        → ((u : Val) (z : World) → slice_get x.loop.items x.loop.asked ≡ Some u → Here (Some (asked_once x.loop) ∷ x.rest) (suc to) shape (single u ∷ operands) z → Runs (suc to) (single u ∷ operands) z)
        → ((z : World) → Here (Some (asked_once x.loop) ∷ x.rest) beyond shape operands z → Runs beyond operands z) → Runs to operands v
    iterated loops at x more last =
        iterated_by x.loop x.rest (subst (λ (ls : List (Option Loop)). Here ls to shape operands v) x.are at) x.may x.again more last

  -- a level more may be opened
  opened_room : (d : ℕ) (loops : List (Option Loop)) (escapes captures : ℕ) (w : World) → Fits names codes away base loops escapes captures w → Room d loops → has_room s.around.limit 1 w ≡ true
      → (e : ℕ) × (d ≡ suc e) × (s.around.limit ≤ suc (length loops) + depth_of base + e)
  opened_room zero loops escapes captures w fits room more =
      let deep_here : depth_of w ≡ length loops + depth_of base = depth_at names codes away base loops escapes captures w fits in
      let fewer : depth_of w + 1 ≤ s.around.limit = leb-true (depth_of w + 1) s.around.limit more in
      absurd (omega (arith, deep_here, fewer, room))
  opened_room (suc d) loops escapes captures w fits room more =
      let left : s.around.limit ≤ suc (length loops) + depth_of base + d = omega (arith, room) in
      (d, refl, left)

  -- at a place, with what is left
  module _ (d : ℕ) (inner : Inner d) (i : ℕ) (fewer : Fewer d i) (c : ℕ) (further : Further d i c)
      (loops : List (Option Loop)) (frames : List Opened) (low : ℕ) (room : Room d loops) (lowest : Lowest low frames) (left : left_in loops ≤ i) (closing : Closing loops frames low)
      (place : ℕ) (lower : low ≤ place) (near : length code ≤ place + c) (shape : Shape) (operands : List Operand) (w : World) (same : shape.frames ≡ frames)
      (at : Here loops place shape operands w) where
    abbrev sees : List Operand → Shape
    sees os = over away.forms shape os

    stays : keeps None w
    stays = so w at.fits.sound

    -- further on
    ahead_by : (c : ℕ) → Further d i c → length code ≤ place + c → place < length code → (to : ℕ) → place < to
        → (ls : List (Option Loop)) → Room d ls → left_in ls ≤ i → Closing ls frames low → (t : Shape) (os : List Operand) (v : World) → t.frames ≡ frames → Here ls to t os v → Runs to os v
    ahead_by zero f enough inside to later ls more few close t os v fr here = absurd (omega (arith, inside, enough))
    ahead_by (suc k) f enough inside to later ls more few close t os v fr here =
        f ls frames low more lowest few close to (omega (arith, lower, later)) (omega (arith, enough, later)) t os v fr here

    -- the run is over
    kept_over : shape.frames ≡ [] → shape.escapes ≡ 0 → shape.captures ≡ 0 → (away ≡ nothing_away → LeftAtEnd kind in_body (values_in operands)) → keeps (Some (values_in operands)) w
    kept_over none no_escapes no_captures few =
        let all = closed_all away loops shape.frames at.opens none in
        let fits : Fits names codes away base [] shape.escapes shape.captures w = fits_loops names codes away base loops [] shape.escapes shape.captures w all.0 at.fits in
        ends_so (values_in operands) w all.1 (few all.1) (subst (λ n. Fits names codes away base [] 0 n w) no_captures (subst (λ n. Fits names codes away base [] n shape.captures w) no_escapes fits))

    over_here : shape.frames ≡ [] → shape.escapes ≡ 0 → shape.captures ≡ 0 → (away ≡ nothing_away → LeftAtEnd kind in_body (values_in operands)) → Comes s w keeps (λ m. events.over (values_in operands))
    over_here none no_escapes no_captures few =
        comes_over s w keeps (λ m. events.over (values_in operands)) (values_in operands) (kept_over none no_escapes no_captures few) (λ n m. refl)

    module _ (inside : place < length code) where
      ahead : (to : ℕ) → place < to → (t : Shape) (os : List Operand) (v : World) → t.frames ≡ frames → Here loops to t os v → Runs to os v
      ahead to later t os v fr here = ahead_by c further near inside to later loops room left closing t os v fr here

      next : (t : Shape) (os : List Operand) (v : World) → t.frames ≡ frames → Here loops (suc place) t os v → Runs (suc place) os v
      next t os v fr here = ahead (suc place) (omega arith) t os v fr here

      -- one item was asked for
      module _ (l : Loop) (rest : List (Option Loop)) (are : loops ≡ Some l ∷ rest) where
        room_again : Room d (Some (asked_once l) ∷ rest)
        room_again = let many : length loops ≡ suc (length rest) = ap (λ (ls : List (Option Loop)). length ls) are in omega (arith, many, room)

        left_again : left_in (Some (asked_once l) ∷ rest) ≤ i
        left_again = let many : left_in loops ≡ length l.items - l.asked = ap left_in are in omega (arith, many, left)

        closing_again : Closing (Some (asked_once l) ∷ rest) frames low
        closing_again = subst (λ (ls : List (Option Loop)). Closing ls frames low) are closing

        onward_again : (to : ℕ) → place < to → (t : Shape) (os : List Operand) (v : World) → t.frames ≡ frames → Here (Some (asked_once l) ∷ rest) to t os v → Runs to os v
        onward_again to later t os v fr here = ahead_by c further near inside to later (Some (asked_once l) ∷ rest) room_again left_again closing_again t os v fr here

        -- so fewer are left
        fewer_by : (i : ℕ) → Fewer d i → left_in loops ≤ i → (u : Val) → slice_get l.items l.asked ≡ Some u → (to : ℕ) → low ≤ to
            → (t : Shape) (os : List Operand) (v : World) → t.frames ≡ frames → Here (Some (asked_once l) ∷ rest) to t os v → Runs to os v
        fewer_by zero f few u some to reach t os v fr here =
            let many : left_in loops ≡ length l.items - l.asked = ap left_in are in
            let within_items : l.asked < length l.items = slice_get_within l.items l.asked u some in
            absurd (omega (arith, many, few, within_items))
        fewer_by (suc k) f few u some to reach t os v fr here =
            let many : left_in loops ≡ length l.items - l.asked = ap left_in are in
            let within_items : l.asked < length l.items = slice_get_within l.items l.asked u some in
            let less : length l.items - (l.asked + 1) ≤ k = omega (arith, many, few, within_items) in
            f (length code) (Some (asked_once l) ∷ rest) frames low room_again lowest less closing_again to reach (omega arith) t os v fr here

      -- a jump, forward or back
      leaps : (to : ℕ) → may_jump code place shape to ≡ true → (os : List Operand) (v : World) → Here loops to shape os v → Runs to os v
      leaps to may os v here = by_way (way_of code place to shape may)
        where
          by_way : (place < to) ⊎ Back code place to shape.frames → Runs to os v
          by_way (inl later) = ahead to later shape os v same here
          by_way (inr back) =
              let x = looped away loops shape.frames here.opens (some_loop (innermost_loop shape.frames) back.push back.loop) in
              let at_least : low ≤ suc back.push = lowest back.push (sym (ap innermost_loop same) ∙ back.loop) in
              let reach : low ≤ suc to = omega (arith, at_least, back.is) in
              iterated to back.beyond back.there shape os v loops here x
              (λ u z some h. fewer_by x.loop x.rest x.are i fewer left u some (suc to) reach shape (single u ∷ os) z same h)
              (λ z h. onward_again x.loop x.rest x.are back.beyond back.past shape os z same h)

      -- what keeps the world
      kept_here : (to : ℕ) (os : List Operand) → Reached code to (sees os) → (v : World) → Held names codes w v → Here loops to shape os v
      kept_here to os r v kept = record { reached = r; macro = at.macro; opens = at.opens; fits = fits_on names codes away base loops shape.escapes shape.captures w v at.fits kept }

      framed : IsFramed w
      framed = framed_at names codes away base loops shape.frames shape.escapes shape.captures w is_base at.opens at.fits

      deep_here : depth ≤ depth_of w
      deep_here =
          let enough : least_of away ≤ length loops = enough_open away loops shape.frames at.opens in
          let here : depth_of w ≡ length loops + depth_of base = depth_at names codes away base loops shape.escapes shape.captures w at.fits in
          omega (arith, enough, here, deep)

      fine : (x : Code) → slice_get code place ≡ Some x → IsSome (effect_of code place x (sees operands))
      fine x there = good.fine place (sees operands) x at.reached there

      abbrev Acts : Code → Type 0
      Acts x = Comes s w keeps (λ m. deed (exec code m) (counts_before code place) x place operands)

      -- what is made and opened here is reached
      makes_reached : (name : List ℕ) (offset flags : ℕ) → slice_get code place ≡ Some (build_macro name offset flags) → IsBodyReached codes w.here (counts_before code place).macros
      makes_reached name offset flags there =
          subst (λ (stream : Stream). IsBodyReached codes stream (counts_before code place).macros) (sym at.fits.here)
          (macro_reached kind code good codes base.here is_code is_known place name offset flags (sees operands) at.reached there)

      opens_reached : (flags : ℕ) → slice_get code place ≡ Some (push_loop flags)
          → (o : Option Rounds) → o ≡ rounds_here w (counts.looping flags (counts_before code place)).rounds → ForSome o (λ (r : Rounds). AreRoundsReached codes r.stream r.number)
      opens_reached flags there o is r e =
          let x = rounds_given w (is_recursive flags) (counts_before code place).rounds r (sym is ∙ e) in
          subst (λ (q : Rounds). AreRoundsReached codes q.stream q.number) x.1
          (subst (λ (stream : Stream). AreRoundsReached codes stream (counts_before code place).rounds) (sym at.fits.here)
          (loop_reached kind code good codes base.here is_code is_known place flags (sees operands) at.reached there x.0))

      plainly : (x : Code) → IsPlain x → slice_get code place ≡ Some x → Acts x
      plainly x p there =
          plain names codes s depth deeper lists keeps so code away.forms place shape (low_of away loops shape.frames at.opens).operands w at.fits.sound framed deep_here
          (λ os r v kept. next shape os v same (kept_here (suc place) os r v kept))
          (λ to may os r v kept. leaps to may os v (kept_here to os r v kept))
          (counts_before code place) makes_reached x p there operands at.reached (fine x there)

      -- a frame is opened
      within_frame : (o : Option Loop) (f : Opened) (v : World) (t : Shape) (os : List Operand) → t.frames ≡ f ∷ shape.frames → ((push : ℕ) → innermost_loop (f ∷ shape.frames) ≡ Some push → push ≡ place)
          → has_room s.around.limit 1 w ≡ true → Here (o ∷ loops) (suc place) t os v → Runs (suc place) os v
      within_frame o f v t os opened is_place more here =
          let r = opened_room d loops shape.escapes shape.captures w at.fits room more in
          by_level d r.0 r.1 inner r.2
        where
          close : Closing (o ∷ loops) (f ∷ shape.frames) (suc place)
          close q later u qs z fr here = ahead (suc q) (omega (arith, later)) u qs z (fr ∙ same) here

          lowest_inside : Lowest (suc place) (f ∷ shape.frames)
          lowest_inside push e = let is : push ≡ place = is_place push e in omega (arith, is)

          by_level : (n k : ℕ) → n ≡ suc k → Inner n → s.around.limit ≤ suc (length loops) + depth_of base + k → Runs (suc place) os v
          by_level zero k e deeper_in enough = absurd (omega (arith, e))
          by_level (suc n) k e deeper_in enough =
              let one_less : n ≡ k = omega (arith, e) in
              deeper_in (left_in (o ∷ loops)) (length code) (o ∷ loops) (f ∷ shape.frames) (suc place) (omega (arith, enough, one_less)) lowest_inside (omega arith) close
              (suc place) (omega arith) (omega arith) t os v opened here

      -- behind a frame that is closed
      closed_on : (o : Option Loop) (rest : List (Option Loop)) (f : Opened) (below : List Opened) → loops ≡ o ∷ rest → shape.frames ≡ f ∷ below → (v : World) → Here rest (suc place) (record shape { frames = below }) operands v
          → Runs (suc place) operands v
      closed_on o rest f below are opened v here =
          let close : Closing (o ∷ rest) frames low = subst (λ (ls : List (Option Loop)). Closing ls frames low) are closing in
          close place lower (record shape { frames = below }) operands v (sym (ap (λ (fs : List Opened). drop 1 fs) (sym same ∙ opened))) here

      with_frame_pushed : slice_get code place ≡ Some push_with → Acts push_with
      with_frame_pushed there =
          with_pushed s w keeps stays (λ m. exec code m (suc place) operands)
          (λ more. within_frame None with_frame (record w { frames = empty_frame ∷ w.frames }) (shapes.opened with_frame shape) operands refl (λ push e. absurd (cc)) more (record {
            reached = falls_to at.reached there refl refl;
            macro = at.macro;
            opens = with_open at.opens;
            fits = fits_framed names codes away base loops (None ∷ loops) shape.escapes shape.captures w (empty_frame ∷ w.frames) (ap (λ (ls : List (Option Loop)). None ∷ ls) at.fits.frames) (λ h. (tt, h)) at.fits;
          }))

      abbrev sees_below : List Opened → Shape
      sees_below below = over away.forms (record shape { frames = below }) operands

      with_frame_popped : slice_get code place ≡ Some pop_frame → Acts pop_frame
      with_frame_popped there =
          let t = some_mapped falling (frame_closed (sees operands) shape.frames) (fine pop_frame there) in
          let x = with_closed away (sees operands) loops shape.frames t.0 at.opens t.1 in
          let r : Reached code (suc place) (sees_below x.below) = subst (Reached code (suc place)) x.left (falls_to at.reached there (ap (λ (o : Option Shape). option_map falling o) t.1) refl) in
          let fits : Fits names codes away base (None ∷ x.rest) shape.escapes shape.captures w = fits_loops names codes away base loops (None ∷ x.rest) shape.escapes shape.captures w x.are at.fits in
          let z : World = behind_with s w keeps stays (x.rest ++ loops_of base.frames) fits.frames in
          with_popped s w keeps stays (x.rest ++ loops_of base.frames) fits.frames (closes names codes away base x.rest x.below shape.escapes shape.captures w is_base x.opens fits) (λ m. exec code m (suc place) operands)
          (closed_on None x.rest with_frame x.below x.are x.opened z (record {
            reached = r;
            macro = at.macro;
            opens = x.opens;
            fits = fits_framed names codes away base (None ∷ x.rest) x.rest shape.escapes shape.captures w z.frames (with_loops s w keeps stays (x.rest ++ loops_of base.frames) fits.frames) (λ h. h.1) fits;
          }))

      -- a loop is opened
      abbrev pushing : ℕ → Shape → Effect
      pushing flags below = falling (shapes.opened (shapes.loop_opened flags place below) below)

      opens_loop : (b : Bool) (l : Loop) (os : List Operand) → l.called ≡ false
          → Opens away (Some l ∷ loops) (cond b (recursive_frame place (record { operands = length (sees os).operands; escapes = shape.escapes; captures = shape.captures })) (loop_frame place) ∷ shape.frames)
      opens_loop true l os called =
          let many : length (map form_of os ++ away.forms) ≡ length (map form_of os) + length away.forms = length-append (map form_of os) away.forms in
          let enough : length away.forms ≤ length (map form_of os ++ away.forms) = omega (arith, many) in
          recursive_open called (record { operands = enough; escapes = at.fits.escaped; captures = at.fits.capturing }) at.opens
      opens_loop false l os called = loop_open called at.opens

      loop_place : (b : Bool) (floor : Floor) (push : ℕ) → innermost_loop (cond b (recursive_frame place floor) (loop_frame place) ∷ shape.frames) ≡ Some push → push ≡ place
      loop_place true floor push e = cc
      loop_place false floor push e = cc

      loop_frame_pushed : (flags : ℕ) → slice_get code place ≡ Some (push_loop flags) → Acts (push_loop flags)
      loop_frame_pushed flags there =
          let may = some_tested (is_iterate (slice_get code (suc place))) (option_map (pushing flags) (taken 1 (sees operands))) (fine (push_loop flags) there) in
          let t = some_mapped (pushing flags) (taken 1 (sees operands)) may.1 in
          let x = takes.one away.forms shape (low_of away loops shape.frames at.opens).operands operands t.0 t.1 in
          let f : Opened = shapes.loop_opened flags place (sees x.rest) in
          let r : Reached code (suc place) (over away.forms (shapes.opened f shape) x.rest) =
          falls_to at.reached there
          (ap (λ b. cond b (option_map (pushing flags) (taken 1 (sees operands))) None) may.0
          ∙ ap (λ (o : Option Shape). option_map (pushing flags) o) t.1 ∙ ap (λ (below : Shape). Some (pushing flags below)) x.left) refl in
          let how : Looping = counts.looping flags (counts_before code place) in
          subst (λ (os : List Operand). Comes s w keeps (λ m. deed (exec code m) (counts_before code place) (push_loop flags) place os)) (sym x.are)
          (loop_pushed s w keeps stays how x.top (λ m. exec code m (suc place) x.rest)
          (λ vs more.
          let l : Loop = loop_opened s w keeps stays how vs in
          within_frame (Some l) f (in_loop s w keeps stays how vs) (shapes.opened f shape) x.rest refl
          (λ push e. loop_place (is_recursive flags) (record { operands = length (sees x.rest).operands; escapes = shape.escapes; captures = shape.captures }) push e) more (record {
            reached = r;
            macro = at.macro;
            opens = opens_loop (is_recursive flags) l x.rest refl;
            fits = fits_framed names codes away base loops (Some l ∷ loops) shape.escapes shape.captures (counted_loop w) (in_loop s w keeps stays how vs).frames (ap (λ (ls : List (Option Loop)). Some l ∷ ls) at.fits.frames)
                (λ h. (opens_reached flags there l.rounds refl, h)) (fits_counted names codes away base loops shape.escapes shape.captures w at.fits);
          })))

      -- a loop is asked, and its frame is closed
      loop_asked : slice_get code place ≡ Some push_did_not_iterate → Acts push_did_not_iterate
      loop_asked there =
          let on : Effect = falling (shapes.given 1 (sees operands)) in
          let may = some_tested (is_some (innermost_loop shape.frames)) (Some on) (fine push_did_not_iterate there) in
          let x = looped away loops shape.frames at.opens may.0 in
          let fits : Fits names codes away base (Some x.loop ∷ x.rest) shape.escapes shape.captures w = fits_loops names codes away base loops (Some x.loop ∷ x.rest) shape.escapes shape.captures w x.are at.fits in
          let r : Reached code (suc place) (shapes.given 1 (sees operands)) = falls_to at.reached there (ap (λ b. cond b (Some on) None) may.0) refl in
          given_none s w keeps stays x.loop (x.rest ++ loops_of base.frames) fits.frames (owns names codes away base x.loop x.rest shape.escapes shape.captures w is_base fits x.may)
          (λ v m. exec code m (suc place) (single v ∷ operands))
          (λ v. next shape (single v ∷ operands) w same (record { reached = r; macro = at.macro; opens = at.opens; fits = at.fits }))

      own_closed : (t : Shape) → loop_closed (sees operands) shape.frames ≡ Some t → slice_get code place ≡ Some pop_loop_frame → LoopClosed away (sees operands) loops shape.frames t → Acts pop_loop_frame
      own_closed t is there x =
          let r : Reached code (suc place) (sees_below x.below) = subst (Reached code (suc place)) x.left (falls_to at.reached there (ap (λ (o : Option Shape). option_map falling o) is) refl) in
          let fits : Fits names codes away base (Some x.loop ∷ x.rest) shape.escapes shape.captures w = fits_loops names codes away base loops (Some x.loop ∷ x.rest) shape.escapes shape.captures w x.are at.fits in
          let own : is_own w x.loop ≡ true = owns names codes away base x.loop x.rest shape.escapes shape.captures w is_base fits (inr (enough_open away x.rest x.below x.opens)) in
          let z : World = behind_loop s w keeps stays x.loop (x.rest ++ loops_of base.frames) fits.frames own in
          loop_popped s w keeps stays x.loop (x.rest ++ loops_of base.frames) fits.frames own x.called (λ m. exec code m (suc place) operands)
          (closed_on (Some x.loop) x.rest x.frame x.below x.are x.opened z (record {
            reached = r;
            macro = at.macro;
            opens = x.opens;
            fits = fits_framed names codes away base (Some x.loop ∷ x.rest) x.rest shape.escapes shape.captures (loop_left w x.loop) z.frames (rest_loops s w keeps stays x.loop (x.rest ++ loops_of base.frames) fits.frames own)
                (λ h. h.1) (fits_left names codes away base (Some x.loop ∷ x.rest) shape.escapes shape.captures w fits x.loop (top_sound names codes away base x.loop x.rest shape.escapes shape.captures w fits));
          }))

      rounds_over : RoundsOver away (sees operands) loops → Acts pop_loop_frame
      rounds_over x =
          let fits : Fits names codes away base (Some x.loop ∷ []) shape.escapes shape.captures w = fits_loops names codes away base loops (Some x.loop ∷ []) shape.escapes shape.captures w x.are at.fits in
          let low_fits : Fits names codes away base (Some x.loop ∷ []) away.escapes away.captures w =
          subst (λ n. Fits names codes away base (Some x.loop ∷ []) away.escapes n w) x.captures (subst (λ n. Fits names codes away base (Some x.loop ∷ []) n shape.captures w) x.escapes fits) in
          let own : is_own w x.loop ≡ true = owns names codes away base x.loop [] shape.escapes shape.captures w is_base fits (inl x.called) in
          rounds_left s w keeps stays x.loop (loops_of base.frames) fits.frames own x.called (rounds_so x.loop w x.rounds low_fits) (λ m. exec code m (suc place) operands)

      loop_frame_popped : slice_get code place ≡ Some pop_loop_frame → Acts pop_loop_frame
      loop_frame_popped there =
          let t = some_mapped falling (loop_closed (sees operands) shape.frames) (fine pop_loop_frame there) in
          by_kind t.0 t.1 (loop_closes away (sees operands) loops shape.frames t.0 at.opens t.1)
        where
          by_kind : (t : Shape) → loop_closed (sees operands) shape.frames ≡ Some t → LoopClosed away (sees operands) loops shape.frames t ⊎ RoundsOver away (sees operands) loops → Acts pop_loop_frame
          by_kind t is (inl x) = own_closed t is there x
          by_kind t is (inr x) = rounds_over x

      -- escapes
      escape_on : slice_get code place ≡ Some push_auto_escape → Acts push_auto_escape
      escape_on there =
          let f : Shape → Effect = λ below. falling (with_escape below) in
          let t = some_mapped f (taken 1 (sees operands)) (fine push_auto_escape there) in
          let x = takes.one away.forms shape (low_of away loops shape.frames at.opens).operands operands t.0 t.1 in
          let r : Reached code (suc place) (with_escape (sees x.rest)) =
          falls_to at.reached there (ap (λ (o : Option Shape). option_map f o) t.1 ∙ ap (λ (below : Shape). Some (f below)) x.left) refl in
          let saved : suc (length w.saved) + away.escapes ≡ suc shape.escapes + length base.saved = omega (arith, at.fits.saved) in
          let escaped : away.escapes ≤ suc shape.escapes = omega (arith, at.fits.escaped) in
          subst (λ (os : List Operand). Comes s w keeps (λ m. deed (exec code m) (counts_before code place) push_auto_escape place os)) (sym x.are)
          (escape_pushed s w keeps stays x.top (λ m. exec code m (suc place) x.rest)
          (λ rule. next (with_escape shape) x.rest (escaping s w keeps stays rule) same (record {
            reached = r;
            macro = at.macro;
            opens = at.opens;
            fits = record { frames = at.fits.frames; outer = at.fits.outer; floor = at.fits.floor; saved = saved; caught = at.fits.caught; meets = at.fits.meets; loads = at.fits.loads; added = at.fits.added; escaped = escaped; capturing = at.fits.capturing; sound = record { macros = at.fits.sound.macros; frames = at.fits.sound.frames; closed = at.fits.sound.closed }; here = at.fits.here };
          })))

      escape_off : slice_get code place ≡ Some pop_auto_escape → Acts pop_auto_escape
      escape_off there =
          let low_here : away.escapes ≤ (floor_of shape.frames).escapes = (low_of away loops shape.frames at.opens).escapes in
          let t : Shape = record (sees operands) { escapes = pred shape.escapes } in
          let may = mapped_tested falling (nat_lt (floor_of shape.frames).escapes shape.escapes) t (fine pop_auto_escape there) in
          let more : (floor_of shape.frames).escapes < shape.escapes = ltb-true (floor_of shape.frames).escapes shape.escapes may.0 in
          let r : Reached code (suc place) t = falls_to at.reached there may.1 refl in
          let some : suc 0 ≤ length w.saved = omega (arith, low_here, more, at.fits.saved) in
          escape_popped s w keeps stays w.saved refl some (λ m. exec code m (suc place) operands)
          (λ rule rest e.
          let many : length w.saved ≡ suc (length rest) = ap (λ (rules : List AutoEscape). length rules) e in
          let one : pred shape.escapes + 1 ≡ shape.escapes = pred_is shape.escapes (omega (arith, more)) in
          let saved : length rest + away.escapes ≡ pred shape.escapes + length base.saved = omega (arith, many, one, at.fits.saved) in
          let escaped : away.escapes ≤ pred shape.escapes = omega (arith, one, low_here, more) in
          next (record shape { escapes = pred shape.escapes }) operands (record w { escape = rule; saved = rest }) same (record {
            reached = r;
            macro = at.macro;
            opens = at.opens;
            fits = record { frames = at.fits.frames; outer = at.fits.outer; floor = at.fits.floor; saved = saved; caught = at.fits.caught; meets = at.fits.meets; loads = at.fits.loads; added = at.fits.added; escaped = escaped; capturing = at.fits.capturing; sound = record { macros = at.fits.sound.macros; frames = at.fits.sound.frames; closed = at.fits.sound.closed }; here = at.fits.here };
          }))

      -- captures
      capture_on : (keep : Bool) → slice_get code place ≡ Some (begin_capture keep) → Acts (begin_capture keep)
      capture_on keep there =
          let caught : suc (length w.captures) + away.captures + met base.parent ≡ suc shape.captures + length base.captures + met w.parent = omega (arith, at.fits.caught) in
          let capturing : away.captures ≤ suc shape.captures = omega (arith, at.fits.capturing) in
          capture_pushed s w keeps stays keep (λ m. exec code m (suc place) operands)
          (next (with_capture shape) operands (record w { captures = capture_begun keep ∷ w.captures }) same (record {
            reached = falls_to at.reached there refl refl;
            macro = at.macro;
            opens = at.opens;
            fits = record { frames = at.fits.frames; outer = at.fits.outer; floor = at.fits.floor; saved = at.fits.saved; caught = caught; meets = at.fits.meets; loads = at.fits.loads; added = at.fits.added; escaped = at.fits.escaped; capturing = capturing; sound = record { macros = at.fits.sound.macros; frames = at.fits.sound.frames; closed = at.fits.sound.closed }; here = at.fits.here };
          }))

      capture_off : slice_get code place ≡ Some end_capture → Acts end_capture
      capture_off there =
          let low_here : away.captures ≤ (floor_of shape.frames).captures = (low_of away loops shape.frames at.opens).captures in
          let t : Shape = record (sees operands) { captures = pred shape.captures } in
          let may = mapped_tested (λ below. falling (shapes.given 1 below)) (nat_lt (floor_of shape.frames).captures shape.captures) t (fine end_capture there) in
          let more : (floor_of shape.frames).captures < shape.captures = ltb-true (floor_of shape.frames).captures shape.captures may.0 in
          let r : Reached code (suc place) (shapes.given 1 t) = falls_to at.reached there may.1 refl in
          let some : suc 0 ≤ length w.captures = omega (arith, low_here, more, at.fits.caught, at.fits.meets) in
          capture_popped s w keeps stays w.captures refl some (λ v m. exec code m (suc place) (single v ∷ operands))
          (λ v x rest e.
          let many : length w.captures ≡ suc (length rest) = ap (λ (captures : List Capture). length captures) e in
          let one : pred shape.captures + 1 ≡ shape.captures = pred_is shape.captures (omega (arith, more)) in
          let caught : length rest + away.captures + met base.parent ≡ pred shape.captures + length base.captures + met w.parent = omega (arith, many, one, at.fits.caught) in
          let capturing : away.captures ≤ pred shape.captures = omega (arith, one, low_here, more) in
          next (record shape { captures = pred shape.captures }) (single v ∷ operands) (record w { captures = rest }) same (record {
            reached = r;
            macro = at.macro;
            opens = at.opens;
            fits = record { frames = at.fits.frames; outer = at.fits.outer; floor = at.fits.floor; saved = at.fits.saved; caught = caught; meets = at.fits.meets; loads = at.fits.loads; added = at.fits.added; escaped = at.fits.escaped; capturing = capturing; sound = record { macros = at.fits.sound.macros; frames = at.fits.sound.frames; closed = at.fits.sound.closed }; here = at.fits.here };
          }))

      -- the body of a macro is over
      returned : slice_get code place ≡ Some return → Acts return
      returned there =
          let may = some_tested (is_over (sees operands)) (Some ending) (fine return there) in
          let inner_parts = and_parts shape.in_macro (is_none_left (sees operands).operands shape.frames && ((shape.escapes == 0) && (shape.captures == 0))) may.0 in
          let none = and_parts (is_none_left (sees operands).operands shape.frames) ((shape.escapes == 0) && (shape.captures == 0)) inner_parts.1 in
          let numbers = and_parts (shape.escapes == 0) (shape.captures == 0) none.1 in
          over_here (none_left (sees operands).operands shape.frames none.0) (eqb-true shape.escapes 0 numbers.0) (eqb-true shape.captures 0 numbers.1) (λ none_away. inr (sym at.macro ∙ inner_parts.0))

      act_on : (x : Code) → slice_get code place ≡ Some x → (is_iterate (Some x) ≡ false) → Acts x
      act_on push_with there other = with_frame_pushed there
      act_on pop_frame there other = with_frame_popped there
      act_on (push_loop flags) there other = loop_frame_pushed flags there
      act_on (iterate to) there other = absurd (cc)
      act_on push_did_not_iterate there other = loop_asked there
      act_on pop_loop_frame there other = loop_frame_popped there
      act_on push_auto_escape there other = escape_on there
      act_on pop_auto_escape there other = escape_off there
      act_on (begin_capture keep) there other = capture_on keep there
      act_on end_capture there other = capture_off there
      act_on return there other = returned there
      act_on x there other = plainly x tt there

    -- the end of the code, or an instruction
    over_at : slice_get code place ≡ None → Runs place operands w
    over_at there =
        let last : place ≡ length code = omega (arith, within code place (sees operands) at.reached, past code place there) in
        let reached : Reached code (length code) (sees operands) = subst (λ (n : ℕ). Reached code n (sees operands)) last at.reached in
        let is : sees operands ≡ end_of kind = good.over (sees operands) reached in
        comes_more s w keeps (λ m. exec code m place operands) (λ m. events.over (values_in operands))
        (λ m. ap (λ (o : Option Code). act (exec code m) (counts_before code place) o place operands) there)
        (over_here (ap (λ (t : Shape). t.frames) is ∙ end_frames kind) (ap (λ (t : Shape). t.escapes) is ∙ end_escapes kind) (ap (λ (t : Shape). t.captures) is ∙ end_captures kind)
        (λ none_away. inl (values_left kind operands (ap (λ (a : Away). map form_of operands ++ a.forms) (sym none_away) ∙ ap (λ (t : Shape). t.operands) is))))

    iterates : (to : ℕ) → slice_get code place ≡ Some (iterate to) → Runs place operands w
    iterates to there =
        let on : Effect = record { falls = Some (shapes.given 1 (sees operands)); jumps = Some (to, sees operands); enters = None } in
        let inside : place < length code = slice_get_within code place (iterate to) there in
        let may = some_tested (may_iterate code place (sees operands) to) (Some on) (fine inside (iterate to) there) in
        let parts = and_parts (is_behind place (innermost_loop shape.frames)) (nat_lt place to && may_lead code to) may.0 in
        let later : place < to = ltb-true place to (and_parts (nat_lt place to) (may_lead code to) parts.1).0 in
        let y = behind_there place (innermost_loop shape.frames) parts.0 in
        let x = looped away loops shape.frames at.opens (some_loop (innermost_loop shape.frames) y.0 y.1) in
        iterated place to there shape operands w loops at x
        (λ u z some h. onward_again inside x.loop x.rest x.are (suc place) (omega arith) shape (single u ∷ operands) z same h)
        (λ z h. onward_again inside x.loop x.rest x.are to later shape operands z same h)

    by_code : (o : Option Code) → slice_get code place ≡ o → Runs place operands w
    by_code None there = over_at there
    by_code (Some (iterate to)) there = iterates to there
    by_code (Some x) there = acts place x there operands w (act_on (slice_get_within code place x there) x there refl)

  -- by the code that is left, by the items that are left, and by the levels that are left
  by_place : (d : ℕ) → Inner d → (i : ℕ) → Fewer d i → (c : ℕ) → Along d i c
  by_place d inner i fewer zero loops frames low room lowest left closing place lower near shape operands w same at =
      by_code d inner i fewer zero tt loops frames low room lowest left closing place lower near shape operands w same at (slice_get code place) refl
  by_place d inner i fewer (suc c) loops frames low room lowest left closing place lower near shape operands w same at =
      by_code d inner i fewer (suc c) (by_place d inner i fewer c) loops frames low room lowest left closing place lower near shape operands w same at (slice_get code place) refl

  by_items : (d : ℕ) → Inner d → (i c : ℕ) → Along d i c
  by_items d inner zero c = by_place d inner zero tt c
  by_items d inner (suc i) c = by_place d inner (suc i) (by_items d inner i) c

  by_levels : (d i c : ℕ) → Along d i c
  by_levels zero i c = by_items zero tt i c
  by_levels (suc d) i c = by_items (suc d) (by_levels d) i c

  -- from a place at which no frame is open, or that of the rounds alone
  pub runs_from : (loops : List (Option Loop)) (low : ℕ) (place : ℕ) (shape : Shape) (operands : List Operand) (w : World) → Reached code place (over away.forms shape operands)
      → shape.in_macro ≡ in_body
      → Opens away loops shape.frames → Fits names codes away base loops shape.escapes shape.captures w → Lowest low shape.frames → Closing loops shape.frames low → low ≤ place → Runs place operands w
  runs_from loops low place shape operands w reached macro opens fits lowest closing lower =
      by_levels s.around.limit (left_in loops) (length code) loops shape.frames low (omega arith) lowest (omega arith) closing place lower (omega arith) shape operands w refl
      (record { reached = reached; macro = macro; opens = opens; fits = fits })
