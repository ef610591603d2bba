-- The code of statements: it keeps the shape, or leaves a loop with what the loop began with.
use Rattle.std.proofs.Common.{◌≡◌, ℕ, suc, ◌+◌, ◌<◌, ◌≤◌, Bool, true, false, ◌&&◌, ◌||◌, cond, List, [], ◌∷◌, ◌++◌, length, Option, None, Some, slice_get, refl, sym, ap, ◌∙◌, length-append, arith}
use Rattle.std.specs.Prelude.{IsTrue, option_map, is_some, if◌then◌else◌}
use Rattle.template_compiler_tree.specs.Tree.{Expression, Expressions, Arguments, Statement, Statements, Assignments, variable, attribute, call, no_arguments, arguments_more, positional, keyword, positional_spread, keyword_spread, absent, given as is_given, raw, print, for_loop, if_condition, with_block, set, set_block, auto_escape, filter_block, block, from_import, extends, macro, continue_loop, break_loop, do_call, no_statements, statements_more}
use Rattle.template_compiler_tree.specs.Kinds.{is_self_name, is_empty}
use Rattle.template_compiler_tree.specs.Tree as tree
use Rattle.template_compiler_names.specs.Enclosed.{enclosed_names, uses_caller}
use Rattle.template_compiler_walk.specs.Expressions.{alone, attribute_called, callee_of}
use Rattle.template_compiler_walk.specs.Statements.{Printed, prints_value, prints_block, prints_super, prints_rounds, printed_of, printed_by, printed_rounds, is_super_name, is_loop_name, caller_name}
use Rattle.template_compiler_walk.specs.Runnable.{IsRunnable, AreRunnable, AreRunnableArguments, IsTarget, AreTargets, AreAssignments, IsRunnableStatement, AreRunnableStatements}
use Rattle.template_compiler_code.specs.Code.{Code, emit_raw, emit, store_local, jump, jump_if_false, push_with, pop_frame, push_loop, iterate, push_did_not_iterate, pop_loop_frame, push_auto_escape, pop_auto_escape, begin_capture, end_capture, discard_top, fast_super, fast_recurse, call_block, load_blocks, include}
use Rattle.template_compiler_code_shapes.specs.declared.outline.Opened.TheVariants.{With as with_frame}
use Rattle.template_compiler_code_shapes.specs.Shapes.{Shape, given, opened, loop_opened, with_escape, with_capture, innermost_loop}
use Rattle.template_compiler_code_shapes.specs.Effects.{Effect, falling, jumping, effect_of}
use Rattle.template_compiler_codegen.specs.Expressions.{Coded, then_code, one, nothing, skipped, either_code, object_core, positional_cores, keyword_cores, expression_core, expression_code, filters_code}
use Rattle.template_compiler_codegen.specs.Core.{no_ways, flat}
use Rattle.template_compiler_codegen.specs.Statements.{Ways, own_ways, closing_with, target_code, assignments_code, loop_flags, rounds_code, iterable_code, loop_end_code, branches_code, left_by, printed_core, declared_core, calling_core, statements_core, statement_code, statements_code}
use Rattle.template_compiler_codegen.proofs.Standing.{StandsAt, behind_one, instruction_at, behind_then, stands_first, stands_second, first_part, last_part, stands_either, behind_either}
use Rattle.template_compiler_codegen.proofs.Expressions.{behind_single, behind_skipped}
use Rattle.template_compiler_codegen.proofs.Lengths.{long_statements}
use Rattle.template_compiler_generator.proofs.Segments.{Free, Lands, Goes, goes_to, goes_on, goes_then, goes_dead, goes_with, gate, flows_any, lands_at}
use Rattle.template_compiler_generator.proofs.Plain.{Sits, IsPlain, escaped_plain, captured_plain, frame_by, framed_plain, framed_loop, frame_ends, taken_plain, traded_plain, escape_plain, capture_plain, jumps_forward, jumps_back}
use Rattle.template_compiler_generator.proofs.Moving.{Moves, stands_within, goes_single, goes_both, moves_one, moves_nothing, tests_on, goes_either, moves_then, called_moves, expression_moves, object_moves, positional_move, keyword_move, filters_move, target_moves, assignments_move}
use Rattle.template_compiler_generator.proofs.Declaring.{declared_moves, named_last}
use Rattle.template_compiler_generator.proofs.Rounds.{Returns, goes_asked, pushes}
use Rattle.template_compiler_generator.proofs.Keeping.{iterable_moves}
use Rattle.template_compiler_generator.proofs.Importing.{import_moves, from_import_moves}

some_is : {A : Type 0} (x y : A) → Some x ≡ Some y → x ≡ y
some_is x y e = cc

-- what is closed on the way out leads from a shape to the loop's own
abbrev pub Closes : List Code → Shape → Shape → Type 0
Closes [] s base = s ≡ base
Closes (c ∷ closings) s base = (t : Shape) × ((code : List Code) (place : ℕ) → effect_of code place c s ≡ Some (falling t)) × Closes closings t base

-- a segment inside of a loop
pub record IsInside (code : List Code) (ways : Ways) (s base : Shape) (from to : ℕ) : Type 0 where
  pub closes : Closes ways.closings s base
  pub push : ℕ
  pub loop : innermost_loop base.frames ≡ Some push
  pub home : ways.continue_to ≡ suc push
  pub asks : slice_get code ways.continue_to ≡ Some (iterate ways.break_to)
  pub before : ways.continue_to ≤ from
  pub past : to ≤ ways.break_to
  pub within : ways.break_to ≤ length code

-- what a segment inside of a loop needs: the loop's shape where `break` and `continue` lead
abbrev pub Outs : Bool → Ways → Shape → (ℕ → Option Shape) → Type 0
Outs looping ways base table = IsTrue looping → (table ways.break_to ≡ Some base) × (table ways.continue_to ≡ Some base)

inside_part : (code : List Code) (ways : Ways) (s base : Shape) (from to a b : ℕ) → from ≤ a → b ≤ to → IsInside code ways s base from to → IsInside code ways s base a b
inside_part code ways s base from to a b low high h = record {
  closes = h.closes;
  push = h.push;
  loop = h.loop;
  home = h.home;
  asks = h.asks;
  before = (let start = h.before in omega arith);
  past = (let end = h.past in omega arith);
  within = h.within;
}

-- code over so many values, which keeps the shape below them or is left
abbrev pub Runs : Bool → Ways → ℕ → Coded → Type 0
Runs looping ways m piece = (code : List Code) (place : ℕ) (s base : Shape) → IsPlain code s → StandsAt code place (piece place) → (IsTrue looping → IsInside code ways s base place (place + length (piece place)))
    → (falls : Bool) × Goes code place (place + length (piece place)) (given m s) (gate falls s) (Outs looping ways base)

runs_moves : (looping : Bool) (ways : Ways) (m : ℕ) (f : Coded) → Moves f m 0 → Runs looping ways m f
runs_moves looping ways m f x code place s base plain h inside = (
  true,
  goes_with code place (place + length (f place)) (given m s) (Some s) (Some s) Free (Outs looping ways base) (x code place s plain h) (λ table flows. flows) (λ table stands flows needs. tt),
)

-- a segment that may be left, and another behind it
falls_then : (code : List Code) (place mid last behind : ℕ) (s0 s : Shape) (N : (ℕ → Option Shape) → Type 0) (a b : Bool) → last ≡ behind → mid ≤ behind → Goes code place mid s0 (gate a s) N → Goes code mid last s (gate b s) N
    → (falls : Bool) × Goes code place behind s0 (gate falls s) N
falls_then code place mid last behind s0 s N false b same within p q = (false, goes_dead code place mid behind s0 N within p)
falls_then code place mid last behind s0 s N true b same within p q = (
  b,
  goes_to code place last behind s0 (gate b s) N same (goes_then code place mid last s0 s (Some s) (gate b s) N N N p q (λ u e. some_is s u e) (λ table stands flows needs. (needs, needs))),
)

-- a piece, and another behind it
runs_then : (looping : Bool) (ways : Ways) (m : ℕ) (f g : Coded) → Runs looping ways m f → Runs looping ways 0 g → Runs looping ways m (then_code f g)
runs_then looping ways m f g x y code place s base plain h inside =
    let mid = place + length (f place) in
    let behind = place + length (then_code f g place) in
    let same : behind ≡ mid + length (g mid) = behind_then f g place in
    let first = x code place s base plain (stands_first code place f g h) (λ t. inside_part code ways s base place behind place mid (omega arith) (omega arith) (inside t)) in
    let second = y code mid s base plain (stands_second code place f g h) (λ t. inside_part code ways s base place behind mid (mid + length (g mid)) (omega arith) (omega arith) (inside t)) in
    falls_then code place mid (mid + length (g mid)) behind (given m s) s (Outs looping ways base) first.0 second.0 (sym same) (omega arith) first.1 second.1

-- values are taken or given, and then a piece
runs_with : (looping : Bool) (ways : Ways) (m k : ℕ) (f g : Coded) → Moves f m k → Runs looping ways k g → Runs looping ways m (then_code f g)
runs_with looping ways m k f g x y code place s base plain h inside =
    let mid = place + length (f place) in
    let behind = place + length (then_code f g place) in
    let same : behind ≡ mid + length (g mid) = behind_then f g place in
    let second = y code mid s base plain (stands_second code place f g h) (λ t. inside_part code ways s base place behind mid (mid + length (g mid)) (omega arith) (omega arith) (inside t)) in (
      second.0,
      goes_to code place (mid + length (g mid)) behind (given m s) (gate second.0 s) (Outs looping ways base) (sym same)
          (goes_then code place mid (mid + length (g mid)) (given m s) (given k s) (Some (given k s)) (gate second.0 s) Free (Outs looping ways base) (Outs looping ways base)
          (x code place s plain (stands_first code place f g h)) second.1 (λ u e. some_is (given k s) u e) (λ table stands flows needs. (tt, needs))),
    )

-- the way out of a loop
goes_out : (closings : List Code) (code : List Code) (place to : ℕ) (s base : Shape) → Closes closings s base → StandsAt code place (closings ++ (jump to ∷ []))
    → ((at : ℕ) → place ≤ at → at < place + length (closings ++ (jump to ∷ [])) → slice_get code at ≡ Some (jump to) → jumping code at None to base ≡ Some (record { falls = None; jumps = Some (to, base); enters = None }))
    → Goes code place (place + length (closings ++ (jump to ∷ []))) s None (λ table. table to ≡ Some base)
goes_out [] code place to s base closes h may =
    let e : Effect = record { falls = None; jumps = Some (to, base); enters = None } in
    let same : suc place ≡ place + length (jump to ∷ []) = omega arith in
    let is : jumping code place None to s ≡ Some e = ap (jumping code place None to) closes ∙ may place (omega arith) (omega arith) (instruction_at code place (jump to) [] h) in
    goes_to code place (suc place) (place + length (jump to ∷ [])) s None (λ table. table to ≡ Some base) same
    (goes_with code place (suc place) s None None (Lands e) (λ table. table to ≡ Some base) (goes_on code place (jump to) s e (instruction_at code place (jump to) [] h) is refl) (λ table flows. flows)
    (λ table stands flows needs. lands_at None to base table needs))
goes_out (c ∷ closings) code place to s base closes h may =
    let t = closes.0 in
    let rest = closings ++ (jump to ∷ []) in
    let same : suc place + length rest ≡ place + length (c ∷ rest) = omega arith in
    goes_to code place (suc place + length rest) (place + length (c ∷ rest)) s None (λ table. table to ≡ Some base) same
    (goes_then code place (suc place) (suc place + length rest) s t (Some t) None (Lands (falling t)) (λ table. table to ≡ Some base) (λ table. table to ≡ Some base)
    (goes_on code place c s (falling t) (instruction_at code place c rest h) (closes.1 code place) refl)
    (goes_out closings code (suc place) to t base closes.2 (behind_one code place c rest h) (λ at low high there. may at (omega arith) (omega arith) there))
    (λ u e. some_is t u e) (λ table stands flows needs. ((λ q u e. absurd cc), needs)))

runs_break : (ways : Ways) (looping : Bool) → IsTrue looping → Runs looping ways 0 (left_by ways.closings ways.break_to)
runs_break ways looping is code place s base plain h inside =
    let i = inside is in
    let past = i.past in (
      false,
      goes_with code place (place + length (left_by ways.closings ways.break_to place)) s None None (λ table. table ways.break_to ≡ Some base) (Outs looping ways base)
          (goes_out ways.closings code place ways.break_to s base i.closes h (λ at low high there. jumps_forward code at None ways.break_to base plain.1 (jump ways.break_to) there refl (omega arith) i.within))
          (λ table flows. flows) (λ table stands flows needs. (needs is).0),
    )

runs_continue : (ways : Ways) (looping : Bool) → IsTrue looping → Runs looping ways 0 (left_by ways.closings ways.continue_to)
runs_continue ways looping is code place s base plain h inside =
    let i = inside is in
    let past = i.past in
    let before = i.before in (
      false,
      goes_with code place (place + length (left_by ways.closings ways.continue_to place)) s None None (λ table. table ways.continue_to ≡ Some base) (Outs looping ways base)
          (goes_out ways.closings code place ways.continue_to s base i.closes h
          (λ at low high there. jumps_back code at ways.continue_to i.push ways.break_to base (omega arith) i.loop i.home i.asks (omega arith)))
          (λ table flows. flows) (λ table stands flows needs. (needs is).1),
    )

-- a segment that may be left, and the closing behind it
closes_then : (code : List Code) (place mid last behind : ℕ) (s1 s : Shape) (N : (ℕ → Option Shape) → Type 0) (a : Bool) → last ≡ behind → mid ≤ behind → Goes code place mid s1 (gate a s1) N → Goes code mid last s1 (Some s) N
    → (falls : Bool) × Goes code place behind s1 (gate falls s) N
closes_then code place mid last behind s1 s N false same within p q = (false, goes_dead code place mid behind s1 N within p)
closes_then code place mid last behind s1 s N true same within p q = (
  true,
  goes_to code place last behind s1 (Some s) N same (goes_then code place mid last s1 s1 (Some s1) (Some s) N N N p q (λ u e. some_is s1 u e) (λ table stands flows needs. (needs, needs))),
)

-- a body with something open, which is closed behind it
runs_closed : (looping : Bool) (ways : Ways) (close : Code) (widen : Shape → Shape) (body : Coded) → ((code : List Code) (s : Shape) → IsPlain code s → IsPlain code (widen s))
    → ((code : List Code) (place : ℕ) (s : Shape) → Sits s → effect_of code place close (widen s) ≡ Some (falling s)) → Runs looping (closing_with close ways) 0 body
    → (code : List Code) (place : ℕ) (s base : Shape) → IsPlain code s → StandsAt code place (then_code body (one close) place) → (IsTrue looping → IsInside code ways s base place (place + length (then_code body (one close) place)))
    → (falls : Bool) × Goes code place (place + length (then_code body (one close) place)) (widen s) (gate falls s) (Outs looping ways base)
runs_closed looping ways close widen body plainly closes x code place s base plain h inside =
    let mid = place + length (body place) in
    let behind = place + length (then_code body (one close) place) in
    let last = mid + length (one close mid) in
    let same : behind ≡ last = behind_then body (one close) place in
    let inner = x code place (widen s) base (plainly code s plain) (stands_first code place body (one close) h) (λ t. inside_more behind mid (omega arith) (inside t)) in
    closes_then code place mid last behind (widen s) s (Outs looping ways base) inner.0 (sym same) (omega arith) inner.1
    (goes_single code mid close (widen s) s (Outs looping ways base) (stands_second code place body (one close) h) (closes code mid s plain.0))
  where
    inside_more : (behind mid : ℕ) → mid ≤ behind → IsInside code ways s base place behind → IsInside code (closing_with close ways) (widen s) base place mid
    inside_more behind mid less i = record {
      closes = (s, (λ code place. closes code place s plain.0), i.closes);
      push = i.push;
      loop = i.loop;
      home = i.home;
      asks = i.asks;
      before = i.before;
      past = (let a = i.past in omega arith);
      within = i.within;
    }

-- a piece that is passed over where the value on top is false
runs_skipped : (looping : Bool) (ways : Ways) (f : Coded) → Runs looping ways 0 f → (code : List Code) (place : ℕ) (s base : Shape) → IsPlain code s → StandsAt code place (skipped jump_if_false f place)
    → (IsTrue looping → IsInside code ways s base place (place + length (skipped jump_if_false f place))) → Goes code place (place + length (skipped jump_if_false f place)) (given 1 s) (Some s) (Outs looping ways base)
runs_skipped looping ways f x code place s base plain h inside =
    let behind = suc place + length (f (suc place)) in
    let same : behind ≡ place + length (skipped jump_if_false f place) = behind_skipped jump_if_false f place in
    let within : behind ≤ length code = (let all = stands_within code place (skipped jump_if_false f place) h in omega arith) in
    let e : Effect = record { falls = Some s; jumps = Some (behind, s); enters = None } in
    let inner = x code (suc place) s base plain (behind_one code place (jump_if_false behind) (f (suc place)) h)
    (λ t. inside_part code ways s base place (place + length (skipped jump_if_false f place)) (suc place) behind (omega arith) (omega arith) (inside t)) in
    goes_to code place behind (place + length (skipped jump_if_false f place)) (given 1 s) (Some s) (Outs looping ways base) same
    (goes_then code place (suc place) behind (given 1 s) s (Some s) (Some s) (Lands e) (Outs looping ways base) (Outs looping ways base)
    (goes_on code place (jump_if_false behind) (given 1 s) e (instruction_at code place (jump_if_false behind) (f (suc place)) h) (tests_on code place behind s plain (instruction_at code place (jump_if_false behind) (f (suc place)) h) (omega arith) within) refl)
    (goes_with code (suc place) behind s (gate inner.0 s) (Some s) (Outs looping ways base) (Outs looping ways base) inner.1 (λ table flows. flows_any inner.0 s table behind flows) (λ table stands flows needs. needs))
    (λ u g. some_is s u g) (λ table stands flows needs. (lands_at (Some s) behind s table (flows s refl), needs)))

-- two branches, or one
runs_branches : (looping : Bool) (ways : Ways) (otherwise : Statements) (f g : Coded) → Runs looping ways 0 f → Runs looping ways 0 g → Runs looping ways 1 (branches_code otherwise f g)
runs_branches looping ways no_statements f g x y code place s base plain h inside = (true, runs_skipped looping ways f x code place s base plain h inside)
runs_branches looping ways (statements_more st sts) f g x y code place s base plain h inside =
    let parts = stands_either code place f g h in
    let begins = suc (suc place + length (f (suc place))) in
    let behind = begins + length (g begins) in
    let same : behind ≡ place + length (either_code f g place) = behind_either f g place in
    let a = x code (suc place) s base plain parts.left (λ t. inside_part code ways s base place (place + length (either_code f g place)) (suc place) (suc place + length (f (suc place))) (omega arith) (omega arith) (inside t)) in
    let b = y code begins s base plain parts.right (λ t. inside_part code ways s base place (place + length (either_code f g place)) begins behind (omega arith) (omega arith) (inside t)) in
    (a.0 || b.0, goes_either code place f g s s (Outs looping ways base) a.0 b.0 plain h a.1 b.1)

-- loops

abbrev bodied : Statements → ℕ → ℕ → Coded
bodied body break_to continue_to = statements_code (own_ways break_to continue_to) body

-- the asking, the target, the body and the way back: with the places of their parts as numbers
goes_rounds : (code : List Code) (place push begins ends_at jump_at : ℕ) (s : Shape) → IsPlain code s → innermost_loop s.frames ≡ Some push → place ≡ suc push → slice_get code place ≡ Some (iterate ends_at) → ends_at ≤ length code
    → suc jump_at ≡ ends_at → StandsAt code jump_at (jump place ∷ []) → Goes code (suc place) begins (given 1 s) (Some s) Free
    → ((IsTrue true → IsInside code (own_ways ends_at place) s s begins jump_at) → (falls : Bool) × Goes code begins jump_at s (gate falls s) (Outs true (own_ways ends_at place) s))
    → Goes code place ends_at s (Some s) Free
goes_rounds code place push begins ends_at jump_at s plain loop home asks within last h stored ran =
    let low = stored.ordered in
    let inner = ran (λ t. record { closes = refl; push = push; loop = loop; home = home; asks = asks; before = omega arith; past = omega arith; within = within }) in
    goes_asked code place push ends_at jump_at s plain loop home asks within last h inner.0
    (goes_then code (suc place) begins jump_at (given 1 s) s (Some s) (gate inner.0 s) Free (Outs true (own_ways ends_at place) s) (Returns ends_at place s) stored inner.1
    (λ u e. some_is s u e) (λ table stands flows needs. (tt, (λ t. needs))))

goes_round : (target : Expression) (body : Statements) → IsTarget target → ((ways : Ways) → Runs true ways 0 (statements_code ways body))
    → (code : List Code) (place push : ℕ) (s : Shape) → IsPlain code s → innermost_loop s.frames ≡ Some push → place ≡ suc push → StandsAt code place (rounds_code (target_code target) (bodied body) place)
    → Goes code place (place + length (rounds_code (target_code target) (bodied body) place)) s (Some s) Free
goes_round target body targeted x code place push s plain loop home h =
    let stored = target_code target (suc place) in
    let begins = suc place + length stored in
    let ends_at = suc (begins + length (bodied body 0 0 begins)) in
    let piece = bodied body ends_at place begins in
    let jump_at = begins + length piece in
    let long : length piece ≡ length (bodied body 0 0 begins) = long_statements body (own_ways ends_at place) (own_ways 0 0) refl begins in
    let whole : place + length (rounds_code (target_code target) (bodied body) place) ≡ ends_at = omega (arith, length-append stored (piece ++ (jump place ∷ [])), length-append piece (jump place ∷ []), long) in
    let last : suc jump_at ≡ ends_at = omega arith in
    let all = stands_within code place (rounds_code (target_code target) (bodied body) place) h in
    let inner = behind_one code place (iterate ends_at) (stored ++ (piece ++ (jump place ∷ []))) h in
    let behind_stored = last_part code (suc place) stored (piece ++ (jump place ∷ [])) inner in
    goes_to code place ends_at (place + length (rounds_code (target_code target) (bodied body) place)) s (Some s) Free (sym whole)
    (goes_rounds code place push begins ends_at jump_at s plain loop home (instruction_at code place (iterate ends_at) (stored ++ (piece ++ (jump place ∷ []))) h) (omega arith) last
    (last_part code begins piece (jump place ∷ []) behind_stored)
    (target_moves target targeted code (suc place) s plain (first_part code (suc place) stored (piece ++ (jump place ∷ [])) inner))
    (λ inside. x (own_ways ends_at place) code begins s s plain (first_part code begins piece (jump place ∷ []) behind_stored) inside))

-- behind the rounds
goes_ended : (looping : Bool) (ways : Ways) (recursive : Bool) (otherwise : Statements) (f : Coded) → Runs looping ways 0 f → (code : List Code) (place push : ℕ) (s base : Shape) → IsPlain code s
    → StandsAt code place (loop_end_code otherwise f place) → (IsTrue looping → IsInside code ways s base place (place + length (loop_end_code otherwise f place)))
    → Goes code place (place + length (loop_end_code otherwise f place)) (opened (frame_by recursive push s) s) (Some s) (Outs looping ways base)
goes_ended looping ways recursive no_statements f x code place push s base plain h inside =
    goes_single code place pop_loop_frame (opened (frame_by recursive push s) s) s (Outs looping ways base) h (ap (option_map falling) (frame_ends recursive 0 push s))
goes_ended looping ways recursive (statements_more st sts) f x code place push s base plain h inside =
    let N = Outs looping ways base in
    let leap = skipped jump_if_false f in
    let closed = then_code (one pop_loop_frame) leap in
    let s1 = opened (frame_by recursive push s) s in
    let mid = place + length (one push_did_not_iterate place) in
    let leap_at = mid + length (one pop_loop_frame mid) in
    let behind = leap_at + length (leap leap_at) in
    let closed_at = mid + length (closed mid) in
    let whole = place + length (then_code (one push_did_not_iterate) closed place) in
    let same : whole ≡ closed_at = behind_then (one push_did_not_iterate) closed place in
    let same_closed : closed_at ≡ behind = behind_then (one pop_loop_frame) leap mid in
    let stands_closed = stands_second code place (one push_did_not_iterate) closed h in
    goes_to code place behind whole s1 (Some s) N (sym (same ∙ same_closed))
    (goes_then code place mid behind s1 (given 1 s1) (Some (given 1 s1)) (Some s) N N N
    (goes_single code place push_did_not_iterate s1 (given 1 s1) N (stands_first code place (one push_did_not_iterate) closed h)
    (ap (λ o. cond (is_some o) (Some (falling (given 1 s1))) None) (framed_loop recursive push s)))
    (goes_then code mid leap_at behind (given 1 s1) (given 1 s) (Some (given 1 s)) (Some s) N N N
    (goes_single code mid pop_loop_frame (given 1 s1) (given 1 s) N (stands_first code mid (one pop_loop_frame) leap stands_closed)
    (ap (option_map falling) (frame_ends recursive 1 push s)))
    (runs_skipped looping ways f x code leap_at s base plain (stands_second code mid (one pop_loop_frame) leap stands_closed)
    (λ t. inside_part code ways s base place whole leap_at behind (omega arith) (omega arith) (inside t)))
    (λ u e. some_is (given 1 s) u e) (λ table stands flows needs. (needs, needs)))
    (λ u e. some_is (given 1 s1) u e) (λ table stands flows needs. (needs, needs)))

-- the frame that a loop's flags open
flags_frame : (recursive : Bool) (place : ℕ) (s : Shape) → loop_opened (loop_flags recursive) place s ≡ frame_by recursive place s
flags_frame true place s = refl
flags_frame false place s = refl

-- a loop over the value on top
runs_loop : (looping : Bool) (ways : Ways) (recursive : Bool) (target : Expression) (body otherwise : Statements) → IsTarget target → ((w : Ways) → Runs true w 0 (statements_code w body)) → Runs looping ways 0 (statements_code ways otherwise)
    → Runs looping ways 1 (then_code (one (push_loop (loop_flags recursive))) (then_code (rounds_code (target_code target) (bodied body)) (loop_end_code otherwise (statements_code ways otherwise))))
runs_loop looping ways recursive target body otherwise targeted x y code place s base plain h inside =
    let N = Outs looping ways base in
    let f = statements_code ways otherwise in
    let rounds = rounds_code (target_code target) (bodied body) in
    let end = loop_end_code otherwise f in
    let later = then_code rounds end in
    let s1 = opened (frame_by recursive place s) s in
    let mid = place + length (one (push_loop (loop_flags recursive)) place) in
    let next : mid ≡ suc place = sym (behind_single place (push_loop (loop_flags recursive))) in
    let end_at = mid + length (rounds mid) in
    let behind = end_at + length (end end_at) in
    let later_at = mid + length (later mid) in
    let whole = place + length (then_code (one (push_loop (loop_flags recursive))) later place) in
    let same : whole ≡ later_at = behind_then (one (push_loop (loop_flags recursive))) later place in
    let same_later : later_at ≡ behind = behind_then rounds end mid in
    let stands_later = stands_second code place (one (push_loop (loop_flags recursive))) later h in
    let stands_rounds = stands_first code mid rounds end stands_later in
    let stored = target_code target (suc mid) in
    let begins = suc mid + length stored in
    let ends = suc (begins + length (bodied body 0 0 begins)) in (
      true,
      goes_to code place behind whole (given 1 s) (Some s) N (sym (same ∙ same_later))
          (goes_then code place mid behind (given 1 s) s1 (Some s1) (Some s) N N N
          (goes_single code place (push_loop (loop_flags recursive)) (given 1 s) s1 N (stands_first code place (one (push_loop (loop_flags recursive))) later h) (pushes code (loop_flags recursive) place mid ends s (frame_by recursive place s) (flags_frame recursive place s) plain next (instruction_at code mid (iterate ends) (stored ++ (bodied body ends mid begins ++ (jump mid ∷ []))) stands_rounds)))
          (goes_then code mid end_at behind s1 s1 (Some s1) (Some s) Free N N
          (goes_round target body targeted x code mid place s1 (framed_plain code recursive place s plain) (framed_loop recursive place s) next stands_rounds)
          (goes_ended looping ways recursive otherwise f y code end_at place s base plain (stands_second code mid rounds end stands_later)
          (λ t. inside_part code ways s base place whole end_at behind (omega arith) (omega arith) (inside t)))
          (λ u e. some_is s1 u e) (λ table stands flows needs. (tt, needs)))
          (λ u e. some_is s1 u e) (λ table stands flows needs. (needs, needs))),
    )

-- nothing at all
runs_nothing : (looping : Bool) (ways : Ways) → Runs looping ways 0 nothing
runs_nothing looping ways = runs_moves looping ways 0 nothing (moves_nothing 0)

-- a frame, in which names are assigned
runs_within : (looping : Bool) (ways : Ways) (assignments : Assignments) (body : Coded) → AreAssignments assignments → Runs looping (closing_with pop_frame ways) 0 body
    → Runs looping ways 0 (then_code (one push_with) (then_code (assignments_code assignments) (then_code body (one pop_frame))))
runs_within looping ways assignments body r x code place s base plain h inside =
    let N = Outs looping ways base in
    let s1 = opened with_frame s in
    let bare = then_code body (one pop_frame) in
    let later = then_code (assignments_code assignments) bare in
    let mid = place + length (one push_with place) in
    let body_at = mid + length (assignments_code assignments mid) in
    let behind = body_at + length (bare body_at) in
    let later_at = mid + length (later mid) in
    let whole = place + length (then_code (one push_with) later place) in
    let same : whole ≡ later_at = behind_then (one push_with) later place in
    let same_later : later_at ≡ behind = behind_then (assignments_code assignments) bare mid in
    let stands_later = stands_second code place (one push_with) later h in
    let closed = runs_closed looping ways pop_frame (opened with_frame) body (λ code t k. k) (λ code place t k. refl) x code body_at s base plain (stands_second code mid (assignments_code assignments) bare stands_later)
    (λ t. inside_part code ways s base place whole body_at behind (omega arith) (omega arith) (inside t)) in (
      closed.0,
      goes_to code place behind whole s (gate closed.0 s) N (sym (same ∙ same_later))
          (goes_then code place mid behind s s1 (Some s1) (gate closed.0 s) N N N
          (goes_single code place push_with s s1 N (stands_first code place (one push_with) later h) refl)
          (goes_then code mid body_at behind s1 s1 (Some s1) (gate closed.0 s) Free N N
          (assignments_move assignments r code mid s1 plain (stands_first code mid (assignments_code assignments) bare stands_later)) closed.1
          (λ u e. some_is s1 u e) (λ table stands flows needs. (tt, needs)))
          (λ u e. some_is s1 u e) (λ table stands flows needs. (needs, needs))),
    )

-- an escape that the value on top tells
runs_escaped : (looping : Bool) (ways : Ways) (body : Coded) → Runs looping (closing_with pop_auto_escape ways) 0 body
    → Runs looping ways 1 (then_code (one push_auto_escape) (then_code body (one pop_auto_escape)))
runs_escaped looping ways body x code place s base plain h inside =
    let N = Outs looping ways base in
    let s1 = with_escape s in
    let bare = then_code body (one pop_auto_escape) in
    let mid = place + length (one push_auto_escape place) in
    let behind = mid + length (bare mid) in
    let whole = place + length (then_code (one push_auto_escape) bare place) in
    let same : whole ≡ behind = behind_then (one push_auto_escape) bare place in
    let closed = runs_closed looping ways pop_auto_escape with_escape body (λ code t k. escaped_plain code t k) (λ code place t k. ap (option_map falling) (escape_plain t k)) x code mid s base plain (stands_second code place (one push_auto_escape) bare h)
    (λ t. inside_part code ways s base place whole mid behind (omega arith) (omega arith) (inside t)) in (
      closed.0,
      goes_to code place behind whole (given 1 s) (gate closed.0 s) N (sym same)
          (goes_then code place mid behind (given 1 s) s1 (Some s1) (gate closed.0 s) N N N
          (goes_single code place push_auto_escape (given 1 s) s1 N (stands_first code place (one push_auto_escape) bare h) (ap (option_map (λ below. falling (with_escape below))) (taken_plain 1 s plain.0)))
          closed.1 (λ u e. some_is s1 u e) (λ table stands flows needs. (needs, needs))),
    )

-- a body whose text is captured, and what takes it
runs_captured : (looping : Bool) (ways : Ways) (body taking : Coded) → Moves taking 1 0 → Runs looping (closing_with end_capture (closing_with discard_top ways)) 0 body
    → Runs looping ways 0 (then_code (one (begin_capture true)) (then_code body (then_code (one end_capture) taking)))
runs_captured looping ways body taking takes x code place s base plain h inside =
    let N = Outs looping ways base in
    let s1 = with_capture s in
    let tail = then_code (one end_capture) taking in
    let later = then_code body tail in
    let mid = place + length (one (begin_capture true) place) in
    let tail_at = mid + length (body mid) in
    let store_at = tail_at + length (one end_capture tail_at) in
    let behind = tail_at + length (tail tail_at) in
    let later_at = mid + length (later mid) in
    let whole = place + length (then_code (one (begin_capture true)) later place) in
    let same : whole ≡ later_at = behind_then (one (begin_capture true)) later place in
    let same_later : later_at ≡ behind = behind_then body tail mid in
    let stands_later = stands_second code place (one (begin_capture true)) later h in
    let stands_tail = stands_second code mid body tail stands_later in
    let inner = x code mid s1 base (captured_plain code s plain) (stands_first code mid body tail stands_later) (λ t. inside_more whole mid tail_at (omega arith) (omega arith) (inside t)) in
    let stored : Goes code tail_at behind s1 (Some s) Free =
    goes_both code tail_at (one end_capture) taking s1 (given 1 s) s
    (goes_single code tail_at end_capture s1 (given 1 s) Free (stands_first code tail_at (one end_capture) taking stands_tail) (ended code tail_at))
    (takes code store_at s plain (stands_second code tail_at (one end_capture) taking stands_tail)) in
    let closed = closes_then code mid tail_at behind behind s1 s N inner.0 refl (omega arith) inner.1
    (goes_with code tail_at behind s1 (Some s) (Some s) Free N stored (λ table flows. flows) (λ table stands flows needs. tt)) in (
      closed.0,
      goes_to code place behind whole s (gate closed.0 s) N (sym (same ∙ same_later))
          (goes_then code place mid behind s s1 (Some s1) (gate closed.0 s) N N N
          (goes_single code place (begin_capture true) s s1 N (stands_first code place (one (begin_capture true)) later h) refl)
          closed.1 (λ u e. some_is s1 u e) (λ table stands flows needs. (needs, needs))),
    )
  where
    ended : (all : List Code) (at : ℕ) → effect_of all at end_capture (with_capture s) ≡ Some (falling (given 1 s))
    ended all at = ap (option_map (λ below. falling (given 1 below))) (capture_plain s plain.0)

    inside_more : (whole from to : ℕ) → place ≤ from → to ≤ whole → IsInside code ways s base place whole
        → IsInside code (closing_with end_capture (closing_with discard_top ways)) (with_capture s) base from to
    inside_more whole from to low high i = record {
      closes = (given 1 s, (λ code place. ended code place), (s, (λ code place. traded_plain 1 0 s plain.0), i.closes));
      push = i.push;
      loop = i.loop;
      home = i.home;
      asks = i.asks;
      before = (let a = i.before in omega arith);
      past = (let a = i.past in omega arith);
      within = i.within;
    }

-- an instruction that neither takes nor gives
runs_still : (looping : Bool) (ways : Ways) (c : Code) → ((code : List Code) (place : ℕ) (s : Shape) → effect_of code place c s ≡ Some (falling s)) → Runs looping ways 0 (one c)
runs_still looping ways c is = runs_moves looping ways 0 (one c) (moves_one c 0 0 (λ code place s plain. is code place s))

-- what a print writes
abbrev PrintsRunnable : Printed → Type 0
PrintsRunnable (prints_rounds e) = IsRunnable e
PrintsRunnable _ = Unit {0}

rounds_printed : (args : Arguments) → AreRunnableArguments args → PrintsRunnable (printed_rounds args)
rounds_printed no_arguments r = tt
rounds_printed (arguments_more (positional e) no_arguments) r = r.0
rounds_printed (arguments_more (positional e) (arguments_more a more)) r = tt
rounds_printed (arguments_more (keyword name e) more) r = tt
rounds_printed (arguments_more (positional_spread e) more) r = tt
rounds_printed (arguments_more (keyword_spread e) more) r = tt

named_printed : (is_super is_loop : Bool) (args : Arguments) → AreRunnableArguments args
    → PrintsRunnable (if is_super then prints_super else if is_loop then printed_rounds args else prints_value)
named_printed true is_loop args r = tt
named_printed false true args r = rounds_printed args r
named_printed false false args r = tt

attribute_printed : (b : Bool) (name : List ℕ) (args : Arguments) → PrintsRunnable (printed_by (attribute_called b name) args)
attribute_printed true name args = tt
attribute_printed false name args = tt

printed_runs : (e : Expression) → IsRunnable e → PrintsRunnable (printed_of e)
printed_runs (call (variable name) args) r = named_printed (is_super_name name && is_empty args) (is_loop_name name) args r.1
printed_runs (call (attribute e name) args) r = attribute_printed (is_self_name e && is_empty args) name args
printed_runs (call callee args) r = tt
printed_runs e r = tt

emit_runs : (looping : Bool) (ways : Ways) (c : Code) → ((code : List Code) (place : ℕ) (s : Shape) → IsPlain code s → effect_of code place c (given 1 s) ≡ Some (falling s))
    → (e : Expression) → IsRunnable e → Runs looping ways 0 (then_code (expression_code e) (one c))
emit_runs looping ways c is e r = runs_with looping ways 0 1 (expression_code e) (one c) (expression_moves e r) (runs_moves looping ways 1 (one c) (moves_one c 1 0 is))

runs_printed : (looping : Bool) (ways : Ways) (printed : Printed) (e : Expression) → IsRunnable e → PrintsRunnable printed
    → Runs looping ways 0 (flat ways (printed_core printed (expression_core e)))
runs_printed looping ways prints_value e r h = emit_runs looping ways emit (λ code place s plain. traded_plain 1 0 s plain.0) e r
runs_printed looping ways (prints_block name) e r h = runs_still looping ways (call_block name) (λ code place s. refl)
runs_printed looping ways prints_super e r h = runs_still looping ways fast_super (λ code place s. refl)
runs_printed looping ways (prints_rounds x) e r h = emit_runs looping ways fast_recurse (λ code place s plain. traded_plain 1 0 s plain.0) x h

-- the body of a macro, from its parameters on: nothing leaves it, and its end is the run's
declared_runs : (name : List ℕ) (arguments defaults : Expressions) (body : Statements) → AreTargets arguments → AreRunnable defaults
    → Runs false no_ways 0 (statements_code no_ways body) → Moves (flat no_ways (declared_core name arguments defaults body (statements_core body))) 0 1
declared_runs name arguments defaults body targets run x =
    declared_moves name arguments defaults (enclosed_names arguments defaults body) (uses_caller arguments defaults body) (statements_code no_ways body) targets run
    (λ code place s plain h. inner (x code place s s plain h (λ t. absurd cc)))
  where
    inner : {code : List Code} {from to : ℕ} {s : Shape} → (falls : Bool) × Goes code from to s (gate falls s) (Outs false no_ways s)
        → (falls : Bool) × Goes code from to s (gate falls s) Free
    inner {code} {from} {to} {s} g = (
      g.0,
      goes_with code from to s (gate g.0 s) (gate g.0 s) (Outs false no_ways s) Free g.1 (λ table flows. flows) (λ table stands flows needs. (λ t. absurd cc)),
    )

mutual
  pub statement_runs : (looping : Bool) (st : Statement) → IsRunnableStatement looping st → (ways : Ways) → Runs looping ways 0 (statement_code ways st)
  statement_runs looping (raw text) r ways = runs_still looping ways (emit_raw text) (λ code place s. refl)
  statement_runs looping (print e) r ways = runs_printed looping ways (printed_of e) e r (printed_runs e r)
  statement_runs looping (for_loop target e condition recursive body otherwise) r ways =
      runs_with looping ways 0 1 (iterable_code target e condition) (then_code (one (push_loop (loop_flags recursive))) (then_code (rounds_code (target_code target) (bodied body)) (loop_end_code otherwise (statements_code ways otherwise))))
      (iterable_moves target e condition r.0 r.1 r.2)
      (runs_loop looping ways recursive target body otherwise r.0 (λ w. statements_run true body r.3 w) (statements_run looping otherwise r.4 ways))
  statement_runs looping (if_condition e body otherwise) r ways =
      runs_with looping ways 0 1 (expression_code e) (branches_code otherwise (statements_code ways body) (statements_code ways otherwise)) (expression_moves e r.0)
      (runs_branches looping ways otherwise (statements_code ways body) (statements_code ways otherwise) (statements_run looping body r.1 ways) (statements_run looping otherwise r.2 ways))
  statement_runs looping (with_block assignments body) r ways = runs_within looping ways assignments (statements_code (closing_with pop_frame ways) body) r.0 (statements_run looping body r.1 (closing_with pop_frame ways))
  statement_runs looping (set target e) r ways =
      runs_with looping ways 0 1 (expression_code e) (target_code target) (expression_moves e r.1) (runs_moves looping ways 1 (target_code target) (target_moves target r.0))
  statement_runs looping (set_block target absent body) r ways =
      let inner = closing_with end_capture (closing_with discard_top ways) in
      runs_captured looping ways (statements_code inner body) (target_code target) (target_moves target r.0) (statements_run looping body r.1 inner)
  statement_runs looping (set_block target (is_given filters) body) r ways =
      let inner = closing_with end_capture (closing_with discard_top ways) in
      runs_captured looping ways (statements_code inner body) (then_code (filters_code filters) (target_code target))
      (moves_then (filters_code filters) (target_code target) 1 1 0 (filters_move filters r.0) (target_moves target r.1)) (statements_run looping body r.2 inner)
  statement_runs looping (filter_block filters body) r ways =
      let inner = closing_with end_capture (closing_with discard_top ways) in
      runs_captured looping ways (statements_code inner body) (then_code (filters_code filters) (one emit))
      (moves_then (filters_code filters) (one emit) 1 1 0 (filters_move filters r.0) (moves_one emit 1 0 (λ code place s plain. traded_plain 1 0 s plain.0)))
      (statements_run looping body r.1 inner)
  statement_runs looping (auto_escape e body) r ways =
      runs_with looping ways 0 1 (expression_code e) (then_code (one push_auto_escape) (then_code (statements_code (closing_with pop_auto_escape ways) body) (one pop_auto_escape))) (expression_moves e r.0)
      (runs_escaped looping ways (statements_code (closing_with pop_auto_escape ways) body) (statements_run looping body r.1 (closing_with pop_auto_escape ways)))
  statement_runs looping (block name required body) r ways = runs_still looping ways (call_block name) (λ code place s. refl)
  statement_runs looping (tree.import e target) r ways = runs_moves looping ways 0 (statement_code ways (tree.import e target)) (import_moves e target r.0 r.1)
  statement_runs looping (from_import e names) r ways = runs_moves looping ways 0 (statement_code ways (from_import e names)) (from_import_moves e names r.0 r.1)
  statement_runs looping (extends e) r ways =
      runs_with looping ways 0 1 (expression_code e) (one load_blocks) (expression_moves e r)
      (runs_moves looping ways 1 (one load_blocks) (moves_one load_blocks 1 0 (λ code place s plain. traded_plain 1 0 s plain.0)))
  statement_runs looping (tree.include e ignore_missing) r ways =
      runs_with looping ways 0 1 (expression_code e) (one (include ignore_missing)) (expression_moves e r)
      (runs_moves looping ways 1 (one (include ignore_missing)) (moves_one (include ignore_missing) 1 0 (λ code place s plain. traded_plain 1 0 s plain.0)))
  statement_runs looping (macro name arguments defaults body) r ways =
      let declared = flat no_ways (declared_core name arguments defaults body (statements_core body)) in
      runs_with looping ways 0 1 declared (one (store_local name)) (declared_runs name arguments defaults body r.0 r.1 (statements_run false body r.2 no_ways))
      (runs_moves looping ways 1 (one (store_local name)) (moves_one (store_local name) 1 0 (λ code place s plain. traded_plain 1 0 s plain.0)))
  statement_runs looping (tree.call_block callee passed arguments defaults body) r ways =
      let caller = declared_core caller_name arguments defaults body (statements_core body) in
      let declared = declared_runs caller_name arguments defaults body r.1 r.2 (statements_run false body r.3 no_ways) in
      runs_with looping ways 0 1 (flat no_ways (calling_core callee passed caller)) (one emit)
      (called_moves (callee_of callee passed) (expression_core callee) (object_core callee) (positional_cores passed) (keyword_cores passed ++ alone (caller_name, caller) ∷ [])
      (expression_moves callee r.0.0) (λ name is. object_moves callee passed r.0.0 name is) (positional_move passed r.0.1)
      (named_last (keyword_cores passed) caller_name caller (keyword_move passed r.0.1) declared))
      (runs_moves looping ways 1 (one emit) (moves_one emit 1 0 (λ code place s plain. traded_plain 1 0 s plain.0)))
  statement_runs looping (do_call callee args) r ways =
      runs_with looping ways 0 1 (expression_code (call callee args)) (one discard_top) (expression_moves (call callee args) r)
      (runs_moves looping ways 1 (one discard_top) (moves_one discard_top 1 0 (λ code place s plain. traded_plain 1 0 s plain.0)))
  statement_runs looping continue_loop r ways = runs_continue ways looping r
  statement_runs looping break_loop r ways = runs_break ways looping r
  statement_runs looping _ r ways = absurd r

  pub statements_run : (looping : Bool) (sts : Statements) → AreRunnableStatements looping sts → (ways : Ways) → Runs looping ways 0 (statements_code ways sts)
  statements_run looping no_statements r ways = runs_nothing looping ways
  statements_run looping (statements_more st sts) r ways =
      runs_then looping ways 0 (statement_code ways st) (statements_code ways sts) (statement_runs looping st r.0 ways) (statements_run looping sts r.1 ways)
