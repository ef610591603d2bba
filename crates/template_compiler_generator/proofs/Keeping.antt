-- The code of what a loop goes over: it leaves one value, over any shape. What a loop with a condition keeps is one operand, a
-- counted run.
use Rattle.std.proofs.Common.{◌≡◌, ℕ, suc, ◌+◌, true, cond, List, [], ◌∷◌, ◌++◌, length, None, Some, slice_get, refl, sym, ap, ◌∙◌, length-append, arith}
use Rattle.std.specs.Prelude.{◌&&◌}
use Rattle.std.proofs.lemmas.Bool.{and_from}
use Rattle.template_compiler_tree.specs.declared.operators.BinOpKind.TheVariants.{Add}
use Rattle.template_compiler_tree.specs.Tree.{Expression, Optional, absent, given as is_given}
use Rattle.template_compiler_walk.specs.Runnable.{IsRunnable, IsRunnableIfGiven, IsTarget}
use Rattle.template_compiler_code.specs.Code.{Code, load_const, build_list, unpack_lists, operate, swap, dup_top, discard_top, jump, push_loop, iterate, pop_loop_frame}
use Rattle.template_compiler_code_shapes.specs.declared.outline.Opened.TheVariants.{Loop as loop_frame}
use Rattle.template_compiler_code_shapes.specs.Shapes.{Shape, single_form, counted_form, counting_form, lowered, given, topped, opened, innermost_loop}
use Rattle.template_compiler_code_shapes.specs.Effects.{falling, made, loads_one, adds, effect_of}
use Rattle.template_compiler_codegen.specs.Expressions.{then_code, one, either_code, expression_code}
use Rattle.template_compiler_codegen.specs.Statements.{target_code, no_flags, one_item, keep_code, kept_code, iterable_code}
use Rattle.template_compiler_codegen.proofs.Standing.{StandsAt, behind_one, instruction_at, stands_first, stands_second, first_part, last_part, stands_either}
use Rattle.template_compiler_codegen.proofs.Expressions.{behind_single}
use Rattle.template_compiler_generator.proofs.Segments.{Free, Goes, goes_to, goes_then}
use Rattle.template_compiler_generator.proofs.Plain.{Sits, IsPlain, given_plain, topped_plain, taken_plain, traded_plain, lowered_plain}
use Rattle.template_compiler_generator.proofs.Moving.{Moves, stands_within, goes_past, goes_single, goes_both, moves_one, moves_then, over_more, under_more, goes_either, expression_moves, target_moves}
use Rattle.template_compiler_generator.proofs.Rounds.{Returns, goes_asked, pushes}

some_is : {A : Type 0} (x y : A) → Some x ≡ Some y → x ≡ y
some_is x y e = cc

-- a value goes above the counted run below it, where 1 is loaded next and added
swap_keeps : (code : List Code) (place : ℕ) (s : Shape) → Sits s → slice_get code (suc place) ≡ Some (load_const one_item) → slice_get code (suc (suc place)) ≡ Some (operate Add)
    → effect_of code place swap (given 1 (topped counted_form s)) ≡ Some (falling (topped counting_form s))
swap_keeps code place s plain loads more =
    let t = given 1 (topped counted_form s) in
    let tests : (loads_one (slice_get code (suc place)) && adds (slice_get code (suc (suc place)))) ≡ true = and_from _ _ (ap loads_one loads) (ap adds more) in
    ap (λ b. cond b (made counting_form (lowered t s.operands)) None) tests ∙ ap (made counting_form) (lowered_plain s t.operands plain)

add_keeps : (code : List Code) (place : ℕ) (s : Shape) → Sits s → effect_of code place (operate Add) (given 1 (topped counting_form s)) ≡ Some (falling (topped counted_form s))
add_keeps code place s plain = ap (made counted_form) (lowered_plain s (given 1 (topped counting_form s)).operands plain)

goes_keep : (code : List Code) (place : ℕ) (s : Shape) → IsPlain code s → StandsAt code place (keep_code place)
    → Goes code place (place + length (keep_code place)) (given 1 (topped counted_form s)) (Some (topped counted_form s)) Free
goes_keep code place s plain h =
    let load = load_const one_item in
    let add = operate Add in
    let run = topped counted_form s in
    let growing = topped counting_form s in
    let second = behind_one code place swap (load ∷ add ∷ []) h in
    let third = behind_one code (suc place) load (add ∷ []) second in
    let loads = instruction_at code (suc place) load (add ∷ []) second in
    let more = instruction_at code (suc (suc place)) add [] third in
    let behind = suc (suc (suc place)) in
    let long : length (keep_code place) ≡ 3 = refl in
    let same : behind ≡ place + length (keep_code place) = omega (arith, long) in
    goes_to code place behind (place + length (keep_code place)) (given 1 run) (Some run) Free same
    (goes_then code place (suc place) behind (given 1 run) growing (Some growing) (Some run) Free Free Free
    (goes_past code place swap (given 1 run) growing Free (instruction_at code place swap (load ∷ add ∷ []) h) (swap_keeps code place s plain.0 loads more))
    (goes_then code (suc place) (suc (suc place)) behind growing (given 1 growing) (Some (given 1 growing)) (Some run) Free Free Free
    (goes_past code (suc place) load growing (given 1 growing) Free loads refl)
    (goes_past code (suc (suc place)) add (given 1 growing) run Free more (add_keeps code (suc (suc place)) s plain.0))
    (λ u e. some_is (given 1 growing) u e) (λ table stands flows needs. (tt, tt)))
    (λ u e. some_is growing u e) (λ table stands flows needs. (tt, tt)))

-- an item is kept or dropped, by the value above it
goes_sifted : (code : List Code) (place : ℕ) (s : Shape) → IsPlain code s → StandsAt code place (either_code keep_code (one discard_top) place)
    → Goes code place (place + length (either_code keep_code (one discard_top) place)) (given 2 (topped counted_form s)) (Some (topped counted_form s)) Free
goes_sifted code place s plain h =
    let run = topped counted_form s in
    let parts = stands_either code place keep_code (one discard_top) h in
    let begins = suc (suc place + length (keep_code (suc place))) in
    goes_either code place keep_code (one discard_top) (given 1 run) run Free true true (given_plain code 1 run (topped_plain code counted_form s plain)) h (goes_keep code (suc place) s plain parts.left)
    (goes_single code begins discard_top (given 1 run) run Free parts.right (traded_plain 1 0 run (topped_plain code counted_form s plain).0))

-- a copy of the item is stored
copied_moves : (target : Expression) → IsTarget target → Moves (then_code (one dup_top) (target_code target)) 1 1
copied_moves target r =
    moves_then (one dup_top) (target_code target) 1 2 1 (moves_one dup_top 1 2 (λ code place s plain. traded_plain 1 2 s plain.0))
    (under_more (target_code target) 1 (target_moves target r))

-- the rounds, over the counted run
goes_kept : (target condition : Expression) → IsTarget target → IsRunnable condition → (code : List Code) (place push : ℕ) (s : Shape) → IsPlain code s → innermost_loop s.frames ≡ Some push → place ≡ suc push
    → StandsAt code place (kept_code target condition place) → Goes code place (place + length (kept_code target condition place)) (topped counted_form s) (Some (topped counted_form s)) Free
goes_kept target condition r t code place push s plain loop home h =
    let run = topped counted_form s in
    let full = topped_plain code counted_form s plain in
    let test = expression_code condition in
    let sift = either_code keep_code (one discard_top) in
    let stored = then_code (one dup_top) (target_code target) (suc place) in
    let begins = suc place + length stored in
    let piece = then_code test sift begins in
    let sift_at = begins + length (test begins) in
    let jump_at = begins + length piece in
    let ends_at = suc jump_at in
    let whole : ends_at ≡ place + length (kept_code target condition place) = omega (arith, length-append stored (piece ++ (jump place ∷ [])), length-append piece (jump place ∷ [])) in
    let all = stands_within code place (kept_code target condition place) h in
    let inner = behind_one code place (iterate ends_at) (stored ++ (piece ++ (jump place ∷ []))) h in
    let behind_stored = last_part code (suc place) stored (piece ++ (jump place ∷ [])) inner in
    let stands_piece = first_part code begins piece (jump place ∷ []) behind_stored in
    let sifted : Goes code begins jump_at (given 1 run) (Some run) Free =
    goes_both code begins test sift (given 1 run) (given 2 run) run (over_more test 1 (expression_moves condition t) code begins run full (stands_first code begins test sift stands_piece))
    (goes_sifted code sift_at s plain (stands_second code begins test sift stands_piece)) in
    goes_to code place ends_at (place + length (kept_code target condition place)) run (Some run) Free whole
    (goes_asked code place push ends_at jump_at run full loop home (instruction_at code place (iterate ends_at) (stored ++ (piece ++ (jump place ∷ []))) h) (omega arith) refl
    (last_part code begins piece (jump place ∷ []) behind_stored) true
    (goes_then code (suc place) begins jump_at (given 1 run) (given 1 run) (Some (given 1 run)) (Some run) Free Free (Returns ends_at place run)
    (copied_moves target r code (suc place) run full (first_part code (suc place) stored (piece ++ (jump place ∷ [])) inner)) sifted
    (λ u e. some_is (given 1 run) u e) (λ table stands flows needs. (tt, tt))))

-- the list of what is kept
kept_moves : (target e condition : Expression) → IsTarget target → IsRunnable e → IsRunnable condition → Moves (iterable_code target e (is_given condition)) 0 1
kept_moves target e condition r i t code place s plain h =
    let value = expression_code e in
    let rounds = kept_code target condition in
    let ends = then_code (one pop_loop_frame) (one (build_list None)) in
    let looped = then_code rounds ends in
    let opens = then_code (one (push_loop no_flags)) looped in
    let later = then_code value opens in
    let run = topped counted_form s in
    let full = topped_plain code counted_form s plain in
    let value_at = place + length (one (unpack_lists 0) place) in
    let push_at = value_at + length (value value_at) in
    let rounds_at = push_at + length (one (push_loop no_flags) push_at) in
    let ends_at = rounds_at + length (rounds rounds_at) in
    let list_at = ends_at + length (one pop_loop_frame ends_at) in
    let frame = opened (loop_frame push_at) s in
    let inside = topped counted_form frame in
    let next : rounds_at ≡ suc push_at = sym (behind_single push_at (push_loop no_flags)) in
    let stands_later = stands_second code place (one (unpack_lists 0)) later h in
    let stands_opens = stands_second code value_at value opens stands_later in
    let stands_looped = stands_second code push_at (one (push_loop no_flags)) looped stands_opens in
    let stands_rounds = stands_first code rounds_at rounds ends stands_looped in
    let stands_ends = stands_second code rounds_at rounds ends stands_looped in
    let stored = then_code (one dup_top) (target_code target) (suc rounds_at) in
    let begins = suc rounds_at + length stored in
    let piece = then_code (expression_code condition) (either_code keep_code (one discard_top)) begins in
    let past = suc (begins + length piece) in
    goes_both code place (one (unpack_lists 0)) later s run (given 1 s)
    (goes_single code place (unpack_lists 0) s run Free (stands_first code place (one (unpack_lists 0)) later h) (ap (made counted_form) (taken_plain 0 s plain.0)))
    (goes_both code value_at value opens run (given 1 run) (given 1 s) (expression_moves e i code value_at run full (stands_first code value_at value opens stands_later))
    (goes_both code push_at (one (push_loop no_flags)) looped (given 1 run) inside (given 1 s)
    (goes_single code push_at (push_loop no_flags) (given 1 run) inside Free (stands_first code push_at (one (push_loop no_flags)) looped stands_opens)
    (pushes code no_flags push_at rounds_at past run (loop_frame push_at) refl full next (instruction_at code rounds_at (iterate past) (stored ++ (piece ++ (jump rounds_at ∷ []))) stands_rounds)))
    (goes_both code rounds_at rounds ends inside inside (given 1 s) (goes_kept target condition r t code rounds_at push_at frame plain refl next stands_rounds)
    (goes_both code ends_at (one pop_loop_frame) (one (build_list None)) inside run (given 1 s)
    (goes_single code ends_at pop_loop_frame inside run Free (stands_first code ends_at (one pop_loop_frame) (one (build_list None)) stands_ends) refl)
    (goes_single code list_at (build_list None) run (given 1 s) Free (stands_second code ends_at (one pop_loop_frame) (one (build_list None)) stands_ends)
    (ap (made single_form) (lowered_plain s run.operands plain.0)))))))

pub iterable_moves : (target e : Expression) (condition : Optional) → IsTarget target → IsRunnable e → IsRunnableIfGiven condition → Moves (iterable_code target e condition) 0 1
iterable_moves target e absent r i t = expression_moves e i
iterable_moves target e (is_given condition) r i t = kept_moves target e condition r i t
