-- The code of each statement performs its walk: from any place, over any operands, with any ways out.
use Rattle.std.proofs.Common.{◌≡◌, ℕ, ◌+◌, ◌≤◌, zero, suc, Bool, true, false, List, [], ◌∷◌, ◌++◌, length, Option, Some, refl, sym, ap, subst, ◌∙◌, append_assoc, length-append, arith}
use Rattle.template_values_model.specs.Val.{Val, list, vals_of, items_of}
use Rattle.template_compiler_tree.specs.Tree.{Expression, Statement, Statements, Assignments, absent, given, keyword, keyword_spread, no_arguments, arguments_more, raw, print, for_loop, if_condition, with_block, set, set_block, auto_escape, filter_block, block, from_import, extends, macro, call, Arguments, Expressions, Imports, continue_loop, break_loop, do_call, no_statements, statements_more, no_assignments, assignments_more}
use Rattle.template_compiler_tree.specs.Tree as tree
use Rattle.template_compiler_process.specs.Process as events
use Rattle.template_compiler_process.specs.Process.{Counts, no_counts, counted_together, Making, Ask, truth_of, store, write_raw, write_value, open_frame, close_frame, Looping, open_loop, next_item, did_not_iterate, close_loop, open_escape, close_escape, super_block, recurse, Process, step, asks, on_done, on_value, on_truth, on_item, on_closure, value_asked, Below}
use Rattle.template_compiler_process.proofs.Below.{below-cut_short, below-step, below-asks_value, below-asks_item, below-asks_closure}
use Rattle.template_compiler_names.specs.Enclosed.{enclosed_names, uses_caller}
use Rattle.template_compiler_walk.specs.Expressions.{Giving, Passing, alone, spreads, has_spread, callee_of, expression_walk, object_walk, positional_walks, keyword_walks, expressions_walk, filters_walk}
use Rattle.template_compiler_walk.specs.Counting.{loop_counts, counts_by, counts_among}
use Rattle.template_compiler_walk.specs.Statements.{Exits, closing, capture_left, capturing, target_walk, assignments_walk, rounds, iterable_walk, loop_end, looping_behind, Printed, prints_value, prints_block, prints_super, prints_rounds, printed_of, printed_walk, imported_names, imports_stored, apart, past, name_texts, making_of, enclosed_walk, declared_walk, caller_name, calling_walk, statement_walk, statements_walk}
use Rattle.template_compiler_code.specs.Code.{Operand, single, closure, Code, store_local, load_const, enclose, get_closure, build_macro, fast_recurse, return, emit_raw, emit, discard_top, jump, jump_if_false, push_with, pop_frame, push_loop, iterate, push_did_not_iterate, pop_loop_frame, push_auto_escape, pop_auto_escape, begin_capture, end_capture, fast_super, call_block, load_blocks, include, export_locals}
use Rattle.template_compiler_code.specs.Counting.{counts_of, counts_in, counts_before, looping, making, takes_caller}
use Rattle.template_compiler_code.specs.Steps.{act, exec}
use Rattle.template_compiler_codegen.specs.Core.{Core, flat}
use Rattle.template_compiler_codegen.specs.Expressions.{Coded, then_code, one, nothing, skipped, either_code, expression_core, object_core, positional_cores, keyword_cores, expression_code, expressions_code, filters_code}
use Rattle.template_compiler_codegen.specs.Statements.{Ways, no_ways, own_ways, closing_with, target_code, assignments_code, loop_flags, iterable_code, rounds_code, loop_end_code, branches_code, left_by, printed_core, apart_core, bodied_core, enclosed_core, made_of_core, macro_flags, declared_core, calling_core, statements_core, statement_code, statements_code}
use Rattle.template_compiler_codegen.proofs.Standing.{StandsAt, behind_one, instruction_at, below_at, behind_then, stands_first, stands_second, first_part, last_part, stands_either, behind_either}
use Rattle.template_compiler_codegen.proofs.Expressions.{Performs, gives_to, behind_single, asks_at, done_at, done_free, moved, longer, tests_at, jumps_at, behind_skipped, pushed}
use Rattle.template_compiler_codegen.proofs.Plain.{Plain, plain_counts, plain_expression, plain_expressions, plain_object, plain_positional, plain_target, plain_assignments, plain_iterable, plain_imports}
use Rattle.template_compiler_codegen.proofs.Behind.{still_behind, still_one, counted_behind, PerformsBehind}
use Rattle.template_compiler_codegen.proofs.Counted.{Counted, CountNone, closed_none, captured_none, loop_flags_count, plain_enclosed, plain_apart, counted_body, counted_looped, counted_statement, counted_statements, counted_declared, counted_calling}
use Rattle.template_compiler_codegen.proofs.Passing.{EachNamed, named_more, merged_more, last_named}
use Rattle.template_compiler_codegen.proofs.Performing.{performs, performs_all, performs_called, performs_object, performs_positional, spreads_alike, merges_alike}
use Rattle.template_compiler_codegen.proofs.Lengths.{long_statements}
use Rattle.template_compiler_codegen.proofs.Storing.{Stores, stores}
use Rattle.template_compiler_codegen.proofs.Filtering.{stores_over, over_filters}
use Rattle.template_compiler_codegen.proofs.Gathering.{performs_iterable}
use Rattle.template_compiler_codegen.proofs.Importing.{imports_code, stores_imports}

-- what leaves a loop goes as far as the closings and the jump do, wherever they stand
abbrev pub WayOut : List Code → List Code → ℕ → ℕ → Process → List Operand → Type 0
WayOut code closings to k p operands = (place : ℕ) → StandsAt code place (left_by closings to place) → Below p (exec code k place operands)

pub record Outs (code : List Code) (ways : Ways) (k : ℕ) (x : Exits) (operands : List Operand) : Type 0 where
  pub on_break : WayOut code ways.closings ways.break_to k x.on_break operands
  pub on_continue : WayOut code ways.closings ways.continue_to k x.on_continue operands

outs_longer : (code : List Code) (ways : Ways) (k m : ℕ) (x : Exits) (operands : List Operand) → k ≤ m → Outs code ways k x operands → Outs code ways m x operands
outs_longer code ways k m x operands less outs = record {
  on_break = λ place h. longer code k m place operands x.on_break less (outs.on_break place h);
  on_continue = λ place h. longer code k m place operands x.on_continue less (outs.on_continue place h);
}

-- a walk of statements, before its ways out and what follows
abbrev pub Leading : Type 0
Leading = Exits → Process → Process

-- the same behind so many macros and loops
abbrev pub Walk : Type 0
Walk = Counts → Leading

-- for any bound behind the code there is one before it, under which it goes as far as the walk
abbrev pub Does : List Code → Ways → Leading → ℕ → ℕ → Type 0
Does code ways walk from to = (k : ℕ) → (j : ℕ) × ((operands : List Operand) (x : Exits) (go : Process)
    → Below go (exec code k to operands) → Outs code ways k x operands → Below (walk x go) (exec code j from operands))

abbrev pub PerformsAs : Ways → Coded → Walk → Type 0
PerformsAs ways piece walk = (code : List Code) (place : ℕ) (before : Counts) → counts_before code place ≡ before → StandsAt code place (piece place) → Does code ways (walk before) place (place + length (piece place))

-- the same over a value on top, which the code takes
abbrev TakesAs : Ways → Coded → (Val → Walk) → Type 0
TakesAs ways piece walk = (code : List Code) (place : ℕ) (before : Counts) → counts_before code place ≡ before → StandsAt code place (piece place) → (k : ℕ) → (j : ℕ) × ((v : Val) (operands : List Operand) (x : Exits) (go : Process)
    → Below go (exec code k (place + length (piece place)) operands) → Outs code ways k x operands → Below (walk v before x go) (exec code j place (single v ∷ operands)))

-- how many stand behind a piece
abbrev Passes : Coded → (Counts → Counts) → Type 0
Passes piece after = (code : List Code) (place : ℕ) (before : Counts) → counts_before code place ≡ before → StandsAt code place (piece place) → counts_before code (place + length (piece place)) ≡ after before

abbrev as_many : Counts → Counts
as_many before = before

passes_plain : (piece : Coded) → ((place : ℕ) → counts_in (piece place) ≡ no_counts) → Passes piece as_many
passes_plain piece none code place before counted h = still_behind code place (piece place) h before counted (none place)

passes_counted : (piece : Coded) (counts : Counts) → Counted piece counts → Passes piece (λ before. counted_together before counts)
passes_counted piece counts own code place before counted h = counted_behind code place (piece place) h before counts counted (own place)

passes_core : {c : Core} → Plain c → (ways : Ways) → Passes (flat ways c) as_many
passes_core {c = c} plain ways = passes_plain (flat ways c) (plain_counts plain ways)

nothing_done : (ways : Ways) → PerformsAs ways nothing (λ before x go. go)
nothing_done ways code place before counted h k =
    let same : place + length (nothing place) ≡ place = omega arith in
    (k, λ operands x go below outs. moved code k (place + length (nothing place)) place operands go same below)

-- one piece, and then another
done_then : (ways : Ways) (first second : Coded) (after : Counts → Counts) → Passes first after → (walk more : Walk) → PerformsAs ways first walk → PerformsAs ways second more
    → PerformsAs ways (then_code first second) (λ before x go. walk before x (more (after before) x go))
done_then ways first second after passes walk more f g code place before counted h k =
    let mid = place + length (first place) in
    let stands = stands_first code place first second h in
    let later = g code mid (after before) (passes code place before counted stands) (stands_second code place first second h) k in
    let m = later.0 + k in
    let earlier = f code place before counted stands m in (
      earlier.0,
      λ operands x go below outs.
          let rest = more (after before) x go in
          earlier.1 operands x rest
          (longer code later.0 m mid operands rest (omega arith) (later.1 operands x go (moved code k (place + length (then_code first second place)) (mid + length (second mid)) operands go (behind_then first second place) below) outs))
          (outs_longer code ways k m x operands (omega arith) outs),
    )

-- one instruction that counts nothing, and then a piece
one_then : (ways : Ways) (c : Code) → counts_of c ≡ no_counts → (second : Coded) (walk more : Walk) → PerformsAs ways (one c) walk → PerformsAs ways second more
    → PerformsAs ways (then_code (one c) second) (λ before x go. walk before x (more before x go))
one_then ways c none second walk more f g = done_then ways (one c) second as_many (passes_plain (one c) (λ place. ap (λ (n : Counts). counted_together n no_counts) none)) walk more f g

-- what gives a value behind so many, and then what takes it
done_behind : (ways : Ways) (first : Coded) (gives : Counts → Giving) → ((code : List Code) (before : Counts) → PerformsBehind code before first (gives before)) → (after : Counts → Counts) → Passes first after
    → (second : Coded) (more : Val → Walk) → TakesAs ways second more → PerformsAs ways (then_code first second) (λ before x go. gives before (λ v. more v (after before) x go))
done_behind ways first gives f after passes second more g code place before counted h k =
    let mid = place + length (first place) in
    let stands = stands_first code place first second h in
    let later = g code mid (after before) (passes code place before counted stands) (stands_second code place first second h) k in
    let earlier = f code before place counted stands later.0 in (
      earlier.0,
      λ operands x go below outs.
          earlier.1 operands (λ v. more v (after before) x go)
          (λ v. later.1 v operands x go (moved code k (place + length (then_code first second place)) (mid + length (second mid)) operands go (behind_then first second place) below) outs),
    )

-- the same where what gives it counts nothing
done_over : (ways : Ways) (first : Coded) (gives : Giving) → Performs first gives → Passes first as_many → (second : Coded) (more : Val → Walk) → TakesAs ways second more
    → PerformsAs ways (then_code first second) (λ before x go. gives (λ v. more v before x go))
done_over ways first gives f passes second more g = done_behind ways first (λ before. gives) (λ code before place counted h. f code place h) as_many passes second more g

-- an expression, and then what takes its value
done_with : (ways : Ways) (e : Expression) (second : Coded) (more : Val → Walk) → TakesAs ways second more → PerformsAs ways (then_code (expression_code e) second) (λ before x go. expression_walk e (λ v. more v before x go))
done_with ways e second more g = done_over ways (expression_code e) (expression_walk e) (performs e) (passes_core (plain_expression e) no_ways) second more g

-- what takes a value, and then a piece
taken_then : (ways : Ways) (first second : Coded) (after : Counts → Counts) → Passes first after → (walk : Val → Walk) (more : Walk) → TakesAs ways first walk → PerformsAs ways second more
    → TakesAs ways (then_code first second) (λ v before x go. walk v before x (more (after before) x go))
taken_then ways first second after passes walk more f g code place before counted h k =
    let mid = place + length (first place) in
    let stands = stands_first code place first second h in
    let later = g code mid (after before) (passes code place before counted stands) (stands_second code place first second h) k in
    let m = later.0 + k in
    let earlier = f code place before counted stands m in (
      earlier.0,
      λ v operands x go below outs.
          let rest = more (after before) x go in
          earlier.1 v operands x rest
          (longer code later.0 m mid operands rest (omega arith) (later.1 operands x go (moved code k (place + length (then_code first second place)) (mid + length (second mid)) operands go (behind_then first second place) below) outs))
          (outs_longer code ways k m x operands (omega arith) outs),
    )

takes_one : (ways : Ways) (c : Code) (e : Val → Ask) → ((next : ℕ → List Operand → Process) (before : Counts) (place : ℕ) (v : Val) (operands : List Operand) → act next before (Some c) place (single v ∷ operands) ≡ step (asks (e v) (on_done (next (suc place) operands))))
    → TakesAs ways (one c) (λ v before x go. step (asks (e v) (on_done go)))
takes_one ways c e is code place before counted h k = (
  suc k,
  λ v operands x go below outs. done_at code place c [] h k (single v ∷ operands) operands (e v) go (is (exec code k) (counts_before code place) place v operands)
      (moved code k (place + length (one c place)) (suc place) operands go (sym (behind_single place c)) below),
)

takes_free : (ways : Ways) (c : Code) (e : Val → Ask) → ((next : ℕ → List Operand → Process) (before : Counts) (place : ℕ) (v : Val) (operands : List Operand) → act next before (Some c) place (single v ∷ operands) ≡ asks (e v) (on_done (next (suc place) operands)))
    → TakesAs ways (one c) (λ v before x go. asks (e v) (on_done go))
takes_free ways c e is code place before counted h k = (
  suc k,
  λ v operands x go below outs. done_free code place c [] h k (single v ∷ operands) operands (e v) go (is (exec code k) (counts_before code place) place v operands)
      (moved code k (place + length (one c place)) (suc place) operands go (sym (behind_single place c)) below),
)

does_one : (ways : Ways) (c : Code) (e : Ask) → ((next : ℕ → List Operand → Process) (before : Counts) (place : ℕ) (operands : List Operand) → act next before (Some c) place operands ≡ step (asks e (on_done (next (suc place) operands))))
    → PerformsAs ways (one c) (λ before x go. step (asks e (on_done go)))
does_one ways c e is code place before counted h k = (
  suc k,
  λ operands x go below outs. done_at code place c [] h k operands operands e go (is (exec code k) (counts_before code place) place operands)
      (moved code k (place + length (one c place)) (suc place) operands go (sym (behind_single place c)) below),
)

does_free : (ways : Ways) (c : Code) (e : Ask) → ((next : ℕ → List Operand → Process) (before : Counts) (place : ℕ) (operands : List Operand) → act next before (Some c) place operands ≡ asks e (on_done (next (suc place) operands)))
    → PerformsAs ways (one c) (λ before x go. asks e (on_done go))
does_free ways c e is code place before counted h k = (
  suc k,
  λ operands x go below outs. done_free code place c [] h k operands operands e go (is (exec code k) (counts_before code place) place operands)
      (moved code k (place + length (one c place)) (suc place) operands go (sym (behind_single place c)) below),
)

takes_stored : (ways : Ways) (piece : Coded) (walk : Val → Process → Process) → Stores piece walk → TakesAs ways piece (λ v before x go. walk v go)
takes_stored ways piece walk f code place before counted h k = let b = f code place h k in (b.0, λ v operands x go below outs. b.1 v operands go below)

assigns : (ways : Ways) (assignments : Assignments) → PerformsAs ways (assignments_code assignments) (λ before x go. assignments_walk assignments go)
assigns ways no_assignments = nothing_done ways
assigns ways (assignments_more target e more) =
    done_with ways e (then_code (target_code target) (assignments_code more)) (λ v before x go. target_walk target v (assignments_walk more go))
    (taken_then ways (target_code target) (assignments_code more) as_many (passes_core (plain_target target) no_ways) (λ v before x go. target_walk target v go) (λ before x go. assignments_walk more go)
    (takes_stored ways (target_code target) (target_walk target) (stores target)) (assigns ways more))

-- a branch that may be skipped
takes_branch : (ways : Ways) (body : Coded) (walk : Walk) → PerformsAs ways body walk → TakesAs ways (skipped jump_if_false body) (λ v before x go. step (asks (truth_of v) (on_truth (walk before x go) go)))
takes_branch ways body walk f code place before counted h k =
    let behind = suc place + length (body (suc place)) in
    let inner = f code (suc place) before (still_one code place (jump_if_false behind) (body (suc place)) h before counted refl) (behind_one code place (jump_if_false behind) (body (suc place)) h) k in
    let m = inner.0 + k in (
      suc m,
      λ v operands x go below outs.
          let there : Below go (exec code k behind operands) = moved code k (place + length (skipped jump_if_false body place)) behind operands go (sym (behind_skipped jump_if_false body place)) below in
          tests_at code place (jump_if_false behind) (body (suc place)) h m (single v ∷ operands) (truth_of v) (walk before x go) go (exec code m (suc place) operands) (exec code m behind operands) refl
          (longer code inner.0 m (suc place) operands (walk before x go) (omega arith) (inner.1 operands x go there outs))
          (longer code k m behind operands go (omega arith) there),
    )

-- two branches
takes_either : (ways : Ways) (body other : Coded) (counts : Counts) → Counted body counts → (walk more : Walk) → PerformsAs ways body walk → PerformsAs ways other more
    → TakesAs ways (either_code body other) (λ v before x go. step (asks (truth_of v) (on_truth (walk before x (step go)) (more (counted_together before counts) x go))))
takes_either ways body other counts own walk more f g code place before counted h k =
    let parts = stands_either code place body other h in
    let leap_at = suc place + length (body (suc place)) in
    let begins = suc leap_at in
    let behind = begins + length (other begins) in
    let last = counted_together before counts in
    let at_left = still_one code place (jump_if_false begins) parts.test parts.tests before counted refl in
    let at_leap = counted_behind code (suc place) (body (suc place)) parts.left before counts at_left (own (suc place)) in
    let at_right = still_one code leap_at (jump behind) parts.rest parts.leaps last at_leap refl in
    let left = f code (suc place) before at_left parts.left (suc k) in
    let right = g code begins last at_right parts.right k in
    let m = left.0 + right.0 in (
      suc m,
      λ v operands x go below outs.
          let there : Below go (exec code k behind operands) = moved code k (place + length (either_code body other place)) behind operands go (sym (behind_either body other place)) below in
          tests_at code place (jump_if_false begins) parts.test parts.tests m (single v ∷ operands) (truth_of v) (walk before x (step go)) (more last x go) (exec code m (suc place) operands) (exec code m begins operands) refl
          (longer code left.0 m (suc place) operands (walk before x (step go)) (omega arith)
          (left.1 operands x (step go) (jumps_at code leap_at behind parts.rest parts.leaps k operands go there) (outs_longer code ways k (suc k) x operands (omega arith) outs)))
          (longer code right.0 m begins operands (more last x go) (omega arith) (right.1 operands x go there outs)),
    )

takes_branches : (ways : Ways) (otherwise : Statements) (body other : Coded) (counts : Counts) → Counted body counts → (walk more : Walk) → PerformsAs ways body walk → PerformsAs ways other more
    → ((before : Counts) (x : Exits) (go : Process) → (otherwise ≡ no_statements) → more before x go ≡ go)
    → TakesAs ways (branches_code otherwise body other) (λ v before x go. step (asks (truth_of v) (on_truth (walk before x (past otherwise go)) (more (counted_together before counts) x go))))
takes_branches ways no_statements body other counts own walk more f g same code place before counted h k =
    let b = takes_branch ways body walk f code place before counted h k in (
      b.0,
      λ v operands x go below outs.
          let P : Process → Type 0 = λ q. Below (step (asks (truth_of v) (on_truth (walk before x go) q))) (exec code b.0 place (single v ∷ operands)) in
          subst P (sym (same (counted_together before counts) x go refl)) (b.1 v operands x go below outs),
    )
takes_branches ways (statements_more s ss) body other counts own walk more f g same code place before counted h k = takes_either ways body other counts own walk more f g code place before counted h k

-- a body with something open, and its closing
closed_body : (ways : Ways) (c : Code) (e : Ask) (body : Coded) (walk : Walk) → ((next : ℕ → List Operand → Process) (before : Counts) (place : ℕ) (operands : List Operand) → act next before (Some c) place operands ≡ asks e (on_done (next (suc place) operands)))
    → PerformsAs (closing_with c ways) body walk → PerformsAs ways (then_code body (one c)) (λ before x go. walk before (closing e x) (asks e (on_done go)))
closed_body ways c e body walk is f code place before counted h k =
    let mid = place + length (body place) in
    let b = f code place before counted (stands_first code place body (one c) h) (suc k) in
    let way_out : (to : ℕ) (p : Process) (operands : List Operand) → WayOut code ways.closings to k p operands → WayOut code (c ∷ ways.closings) to (suc k) (asks e (on_done p)) operands =
    λ to p operands out at stands. done_free code at c (left_by ways.closings to at) stands k operands operands e p (is (exec code k) (counts_before code at) at operands) (out (suc at) (behind_one code at c (left_by ways.closings to at) stands)) in (
      b.0,
      λ operands x go below outs.
          b.1 operands (closing e x) (asks e (on_done go))
          (done_free code mid c [] (stands_second code place body (one c) h) k operands operands e go (is (exec code k) (counts_before code mid) mid operands)
          (moved code k (place + length (then_code body (one c) place)) (suc mid) operands go (behind_then body (one c) place ∙ sym (behind_single mid c)) below))
          (record { on_break = way_out ways.break_to x.on_break operands outs.on_break; on_continue = way_out ways.continue_to x.on_continue operands outs.on_continue }),
    )

-- a body that is captured, and what takes its text
captured_body : (ways : Ways) (body taking : Coded) (walk : Walk) (takes : Val → Process → Process) → Stores taking takes → PerformsAs (closing_with end_capture (closing_with discard_top ways)) body walk
    → PerformsAs ways (then_code body (then_code (one end_capture) taking)) (λ before x go. walk before (capturing x) (value_asked events.end_capture (λ text. takes text go)))
captured_body ways body taking walk takes g f code place before counted h k =
    let tail = then_code (one end_capture) taking in
    let mid = place + length (body place) in
    let store_at = mid + length (one end_capture mid) in
    let behind_body = stands_second code place body tail h in
    let stored = g code store_at (stands_second code mid (one end_capture) taking behind_body) k in
    let m = suc (suc (stored.0 + k)) in
    let b = f code place before counted (stands_first code place body tail h) m in
    let way_out : (to : ℕ) (p : Process) (operands : List Operand) → WayOut code ways.closings to k p operands → WayOut code (end_capture ∷ discard_top ∷ ways.closings) to m (capture_left p) operands =
    λ to p operands out at stands.
    let rest = left_by ways.closings to at in
    let second = behind_one code at end_capture (discard_top ∷ rest) stands in
    longer code (suc (suc k)) m at operands (capture_left p) (omega arith)
    (asks_at code at end_capture (discard_top ∷ rest) stands (suc k) operands operands events.end_capture (λ text. p) refl
    (λ text. below_at code (suc at) discard_top (instruction_at code (suc at) discard_top rest second) k (single text ∷ operands) p
    (out (suc (suc at)) (behind_one code (suc at) discard_top rest second)))) in (
      b.0,
      λ operands x go below outs.
          let ended : Process = value_asked events.end_capture (λ text. takes text go) in
          b.1 operands (capturing x) ended
          (longer code (suc stored.0) m mid operands ended (omega arith)
          (asks_at code mid end_capture [] (stands_first code mid (one end_capture) taking behind_body) stored.0 operands operands events.end_capture (λ text. takes text go) refl
          (λ text. moved code stored.0 store_at (suc mid) (single text ∷ operands) (takes text go) (sym (behind_single mid end_capture))
          (stored.1 text operands go (moved code k (place + length (then_code body tail place)) (store_at + length (taking store_at)) operands go (behind_then body tail place ∙ behind_then (one end_capture) taking mid) below)))))
          (record { on_break = way_out ways.break_to x.on_break operands outs.on_break; on_continue = way_out ways.continue_to x.on_continue operands outs.on_continue }),
    )

-- a capture, its body, and what takes its text
performs_capture : (ways : Ways) (body taking : Coded) (walk : Walk) (takes : Val → Process → Process) → Stores taking takes → PerformsAs (closing_with end_capture (closing_with discard_top ways)) body walk
    → PerformsAs ways (then_code (one (begin_capture true)) (then_code body (then_code (one end_capture) taking)))
    (λ before x go. asks (events.begin_capture true) (on_done (walk before (capturing x) (value_asked events.end_capture (λ text. takes text go)))))
performs_capture ways body taking walk takes g f =
    one_then ways (begin_capture true) refl (then_code body (then_code (one end_capture) taking)) (λ before x go. asks (events.begin_capture true) (on_done go))
    (λ before x go. walk before (capturing x) (value_asked events.end_capture (λ text. takes text go)))
    (does_free ways (begin_capture true) (events.begin_capture true) (λ next before place operands. refl))
    (captured_body ways body taking walk takes g f)

-- a value is printed
stores_printed : Stores (one emit) (λ v go. step (asks (write_value v) (on_done go)))
stores_printed code place h k = (
  suc k,
  λ v operands go below. done_at code place emit [] h k (single v ∷ operands) operands (write_value v) go refl
      (moved code k (place + length (one emit place)) (suc place) operands go (sym (behind_single place emit)) below),
)

-- the value on top is dropped, for nothing
takes_dropped : (ways : Ways) → TakesAs ways (one discard_top) (λ v before x go. go)
takes_dropped ways code place before counted h k = (
  suc k,
  λ v operands x go below outs. below_at code place discard_top (instruction_at code place discard_top [] h) k (single v ∷ operands) go
      (moved code k (place + length (one discard_top place)) (suc place) operands go (sym (behind_single place discard_top)) below),
)

-- a way out
leaves : (ways : Ways) (to : ℕ) (walk : Leading) → ((code : List Code) (k : ℕ) (x : Exits) (go : Process) (operands : List Operand) → Outs code ways k x operands → WayOut code ways.closings to k (walk x go) operands)
    → PerformsAs ways (left_by ways.closings to) (λ before. walk)
leaves ways to walk out code place before counted h k = (k, λ operands x go below outs. out code k x go operands outs place h)

-- behind a loop
pub ends_loop : (ways : Ways) (otherwise : Statements) (other : Coded) (more : Walk) → PerformsAs ways other more → PerformsAs ways (loop_end_code otherwise other) (λ before x go. loop_end otherwise (more before x go) go)
ends_loop ways no_statements other more f code place before counted h k = does_free ways pop_loop_frame close_loop (λ next before place operands. refl) code place before counted h k
ends_loop ways (statements_more s ss) other more f code place before counted h k =
    let tail = skipped jump_if_false other in
    let rest = then_code (one pop_loop_frame) tail in
    let first = one push_did_not_iterate in
    let at_pop = place + length (first place) in
    let behind_first = stands_second code place first rest h in
    let at_tail = at_pop + length (one pop_loop_frame at_pop) in
    let counted_pop = still_behind code place (first place) (stands_first code place first rest h) before counted refl in
    let counted_tail = still_behind code at_pop (one pop_loop_frame at_pop) (stands_first code at_pop (one pop_loop_frame) tail behind_first) before counted_pop refl in
    let b = takes_branch ways other more f code at_tail before counted_tail (stands_second code at_pop (one pop_loop_frame) tail behind_first) k in (
      suc (suc b.0),
      λ operands x go below outs.
          below_at code place push_did_not_iterate (instruction_at code place push_did_not_iterate [] (stands_first code place first rest h)) (suc b.0) operands (loop_end (statements_more s ss) (more before x go) go)
          (below-asks_value did_not_iterate _ _ (λ flag.
          moved code (suc b.0) at_pop (suc place) (single flag ∷ operands) (asks close_loop (on_done (step (asks (truth_of flag) (on_truth (more before x go) go))))) (sym (behind_single place push_did_not_iterate))
          (done_free code at_pop pop_loop_frame [] (stands_first code at_pop (one pop_loop_frame) tail behind_first) b.0 (single flag ∷ operands) (single flag ∷ operands) close_loop (step (asks (truth_of flag) (on_truth (more before x go) go))) refl
          (moved code b.0 at_tail (suc at_pop) (single flag ∷ operands) (step (asks (truth_of flag) (on_truth (more before x go) go))) (sym (behind_single at_pop pop_loop_frame))
          (b.1 flag operands x go (moved code k (place + length (then_code first rest place)) (at_tail + length (tail at_tail)) operands go (behind_then first rest place ∙ behind_then (one pop_loop_frame) tail at_pop) below) outs))))),
    )

-- a loop's own ways out
abbrev pub loop_ways : ℕ → ℕ → Ways
loop_ways break_to continue_to = own_ways break_to continue_to

-- a round, before its ways out and what follows
abbrev Round : Type 0
Round = Val → Exits → Process → Process

-- what stands at the places of a loop
record LoopAt (code : List Code) (place begins jump_at ends_at : ℕ) (target : Expression) (walk : Leading) : Type 0 where
  rest : List Code
  asks_there : StandsAt code place (iterate ends_at ∷ rest)
  stores_there : (k : ℕ) → (j : ℕ) × ((v : Val) (operands : List Operand) (go : Process) → Below go (exec code k begins operands) → Below (target_walk target v go) (exec code j (suc place) (single v ∷ operands)))
  does_there : Does code (loop_ways ends_at place) walk begins jump_at
  leads_back : StandsAt code jump_at (jump place ∷ [])

-- so many rounds at most
turns : (code : List Code) (place begins jump_at ends_at : ℕ) (target : Expression) (walk : Leading) → LoopAt code place begins jump_at ends_at target walk → (n k : ℕ)
    → (j : ℕ) × ((operands : List Operand) (finished : Process) → Below finished (exec code k ends_at operands) → Below (rounds n (λ v inner again. target_walk target v (walk inner again)) finished) (exec code j place operands))
turns code place begins jump_at ends_at target walk at zero k = (0, λ operands finished below. below-cut_short _)
turns code place begins jump_at ends_at target walk at (suc n) k =
    let later = turns code place begins jump_at ends_at target walk at n k in
    let m = later.0 + k in
    let body = at.does_there (suc m) in
    let stored = at.stores_there body.0 in
    let all = stored.0 + k in (
      suc all,
      λ operands finished below.
          let round : Round = λ v inner again. target_walk target v (walk inner again) in
          let again = step (rounds n round finished) in
          let next : Below (rounds n round finished) (exec code m place operands) = longer code later.0 m place operands (rounds n round finished) (omega arith) (later.1 operands finished below) in
          let inner : Exits = record { on_break = step finished; on_continue = again } in
          let outs : Outs code (loop_ways ends_at place) (suc m) inner operands = record {
            on_break = λ at_break h. jumps_at code at_break ends_at [] h m operands finished (longer code k m ends_at operands finished (omega arith) below);
            on_continue = λ at_continue h. jumps_at code at_continue place [] h m operands (rounds n round finished) next;
          } in
          below_at code place (iterate ends_at) (instruction_at code place (iterate ends_at) at.rest at.asks_there) all operands (step (asks next_item (on_item (λ v. round v inner again) finished)))
          (below-step _ _ (below-asks_item next_item (λ v. round v inner again) (λ v. exec code all (suc place) (single v ∷ operands)) finished (exec code all ends_at operands)
          (λ v. longer code stored.0 all (suc place) (single v ∷ operands) (round v inner again) (omega arith)
          (stored.1 v operands (walk inner again) (body.1 operands inner again (jumps_at code jump_at place [] at.leads_back m operands (rounds n round finished) next) outs)))
          (longer code k all ends_at operands finished (omega arith) below))),
    )

-- the rounds of a loop
pub does_rounds : (n : ℕ) (target : Expression) (ss : Statements) (walk : Walk) → ((a b : ℕ) → PerformsAs (loop_ways a b) (statements_code (loop_ways a b) ss) walk) → (ways : Ways)
    → PerformsAs ways (rounds_code (target_code target) (λ break_to continue_to. statements_code (loop_ways break_to continue_to) ss)) (λ before x finished. rounds n (λ v inner again. target_walk target v (walk before inner again)) finished)
does_rounds n target ss walk f ways code place before counted h k =
    let body = λ (a b : ℕ). statements_code (loop_ways a b) ss in
    let stored = target_code target (suc place) in
    let begins = suc place + length stored in
    let ends_at = suc (begins + length (body 0 0 begins)) in
    let piece = body ends_at place begins in
    let jump_at = begins + length piece in
    let inner = behind_one code place (iterate ends_at) (stored ++ (piece ++ (jump place ∷ []))) h in
    let behind_stored = last_part code (suc place) stored (piece ++ (jump place ∷ [])) inner in
    let long : length piece ≡ length (body 0 0 begins) = long_statements ss (loop_ways ends_at place) (loop_ways 0 0) refl begins in
    let whole : place + length (rounds_code (target_code target) body place) ≡ ends_at = omega (arith, length-append stored (piece ++ (jump place ∷ [])), length-append piece (jump place ∷ []), long) in
    let stored_piece = first_part code (suc place) stored (piece ++ (jump place ∷ [])) inner in
    let counted_round = still_one code place (iterate ends_at) (stored ++ (piece ++ (jump place ∷ []))) h before counted refl in
    let counted_body = still_behind code (suc place) stored stored_piece before counted_round (plain_counts (plain_target target) no_ways (suc place)) in
    let turned = turns code place begins jump_at ends_at target (walk before) (record {
      rest = stored ++ (piece ++ (jump place ∷ []));
      asks_there = h;
      stores_there = stores target code (suc place) stored_piece;
      does_there = f ends_at place code begins before counted_body (first_part code begins piece (jump place ∷ []) behind_stored);
      leads_back = last_part code begins piece (jump place ∷ []) behind_stored;
    }) n k in
    (turned.0, λ operands x finished below outs. turned.1 operands finished (moved code k (place + length (rounds_code (target_code target) body place)) ends_at operands finished whole below))

otherwise_over : (n : ℕ) (before : Counts) (otherwise : Statements) (x : Exits) (go : Process) → otherwise ≡ no_statements → statements_walk n before otherwise x go ≡ go
otherwise_over n before otherwise x go e = ap (λ ss. statements_walk n before ss x go) e

-- what a print writes
performs_printed : (printed : Printed) (e : Expression) (ways : Ways) → PerformsAs ways (flat ways (printed_core printed (expression_core e))) (λ before x go. printed_walk printed (expression_walk e) go)
performs_printed prints_value e ways = done_with ways e (one emit) (λ v before x go. step (asks (write_value v) (on_done go))) (takes_one ways emit write_value (λ next before place v operands. refl))
performs_printed (prints_block name) e ways = does_one ways (call_block name) (events.call_block name) (λ next before place operands. refl)
performs_printed prints_super e ways = does_one ways fast_super super_block (λ next before place operands. refl)
performs_printed (prints_rounds items) e ways = done_with ways items (one fast_recurse) (λ v before x go. step (asks (recurse v) (on_done go))) (takes_one ways fast_recurse recurse (λ next before place v operands. refl))

-- a template runs in a frame of its own
performs_apart : (e : Expression) (ways : Ways) → PerformsAs ways (flat ways (apart_core e)) (λ before x go. apart e go)
performs_apart e ways =
    one_then ways push_with refl (then_code (expression_code e) (one (include false))) (λ before x go. asks open_frame (on_done go))
    (λ before x go. expression_walk e (λ v. step (asks (events.include false v) (on_done go)))) (does_free ways push_with open_frame (λ next before place operands. refl))
    (done_with ways e (one (include false)) (λ v before x go. step (asks (events.include false v) (on_done go))) (takes_one ways (include false) (events.include false) (λ next before place v operands. refl)))

-- what was captured
gives_captured : Performs (one end_capture) (λ go. step (asks events.end_capture (on_value go)))
gives_captured code place h =
    gives_to code (λ go. step (asks events.end_capture (on_value go))) place (suc place) (place + length (one end_capture place)) (behind_single place end_capture)
    (λ k. (suc k, λ operands go below. asks_at code place end_capture [] h k operands operands events.end_capture go refl below))

-- a module is made of the value on top, its frame is closed, and the module is stored
takes_module : (ways : Ways) (target : Expression) → TakesAs ways (then_code (one export_locals) (then_code (one pop_frame) (target_code target)))
    (λ text before x go. asks (events.export_locals text) (on_value (λ m. asks close_frame (on_done (target_walk target m go)))))
takes_module ways target code place before counted h k =
    let first = one export_locals in
    let second = one pop_frame in
    let third = target_code target in
    let later = then_code second third in
    let close_at = place + length (first place) in
    let store_at = close_at + length (second close_at) in
    let behind = stands_second code place first later h in
    let stored = stores target code store_at (stands_second code close_at second third behind) k in (
      suc (suc stored.0),
      λ text operands x go below outs.
          below_at code place export_locals (instruction_at code place export_locals [] (stands_first code place first later h)) (suc stored.0) (single text ∷ operands) (asks (events.export_locals text) (on_value (λ m. asks close_frame (on_done (target_walk target m go)))))
          (below-asks_value (events.export_locals text) (λ m. asks close_frame (on_done (target_walk target m go))) (λ m. exec code (suc stored.0) (suc place) (single m ∷ operands)) (λ m.
          moved code (suc stored.0) close_at (suc place) (single m ∷ operands) (asks close_frame (on_done (target_walk target m go))) (sym (behind_single place export_locals))
          (done_free code close_at pop_frame [] (stands_first code close_at second third behind) stored.0 (single m ∷ operands) (single m ∷ operands) close_frame (target_walk target m go) refl
          (moved code stored.0 store_at (suc close_at) (single m ∷ operands) (target_walk target m go) (sym (behind_single close_at pop_frame))
          (stored.1 m operands go (moved code k (place + length (then_code first later place)) (store_at + length (third store_at)) operands go (behind_then first later place ∙ behind_then second third close_at) below)))))),
    )

-- names are looked up, the frame is closed, and the values are stored
imports_named : (ways : Ways) (names : Imports) (last : Coded) (more : Walk) → PerformsAs ways last more
    → PerformsAs ways (then_code (expressions_code (imported_names names)) (then_code (one pop_frame) (then_code (imports_code names) last)))
    (λ before x go. expressions_walk (imported_names names) (λ vs. asks close_frame (on_done (imports_stored names vs (more before x go)))))
imports_named ways names last more f code place before counted h k =
    let es = imported_names names in
    let first = expressions_code es in
    let second = one pop_frame in
    let third = imports_code names in
    let stored_then = then_code third last in
    let closed_then = then_code second stored_then in
    let close_at = place + length (first place) in
    let store_at = close_at + length (second close_at) in
    let last_at = store_at + length (third store_at) in
    let behind_first = stands_second code place first closed_then h in
    let behind_second = stands_second code close_at second stored_then behind_first in
    let counted_close = still_behind code place (first place) (stands_first code place first closed_then h) before counted (plain_counts (plain_expressions es) no_ways place) in
    let counted_store = still_behind code close_at (second close_at) (stands_first code close_at second stored_then behind_first) before counted_close refl in
    let counted_last = still_behind code store_at (third store_at) (stands_first code store_at third last behind_second) before counted_store (plain_counts (plain_imports names) no_ways store_at) in
    let ended = f code last_at before counted_last (stands_second code store_at third last behind_second) k in
    let stored = stores_imports names code store_at (stands_first code store_at third last behind_second) ended.0 in
    let looked = performs_all es code place (stands_first code place first closed_then h) (suc stored.0) in (
      looked.0,
      λ operands x go below outs.
          looked.1 operands (λ vs. asks close_frame (on_done (imports_stored names vs (more before x go))))
          (λ vs many.
          done_free code close_at pop_frame [] (stands_first code close_at second stored_then behind_first) stored.0 (pushed vs operands) (pushed vs operands) close_frame (imports_stored names vs (more before x go)) refl
          (moved code stored.0 store_at (suc close_at) (pushed vs operands) (imports_stored names vs (more before x go)) (sym (behind_single close_at pop_frame))
          (stored.1 vs many operands (more before x go)
          (ended.1 operands x go
          (moved code k (place + length (then_code first closed_then place)) (last_at + length (last last_at)) operands go (behind_then first closed_then place ∙ behind_then second stored_then close_at ∙ behind_then third last store_at) below) outs)))),
    )

-- names are enclosed
encloses_all : (names : List (List ℕ)) (code : List Code) (place : ℕ) → StandsAt code place (flat no_ways (enclosed_core names) place) → (k : ℕ)
    → (j : ℕ) × ((operands : List Operand) (go : Process) → Below go (exec code k (place + length (flat no_ways (enclosed_core names) place)) operands) → Below (enclosed_walk names go) (exec code j place operands))
encloses_all [] code place h k =
    let same : place + length (nothing place) ≡ place = omega arith in
    (k, λ operands go below. moved code k (place + length (nothing place)) place operands go same below)
encloses_all (name ∷ names) code place h k =
    let first = one (enclose name) in
    let second = flat no_ways (enclosed_core names) in
    let mid = place + length (first place) in
    let later = encloses_all names code mid (stands_second code place first second h) k in (
      suc later.0,
      λ operands go below.
          done_at code place (enclose name) [] (stands_first code place first second h) later.0 operands operands (events.enclose name) (enclosed_walk names go) refl
          (moved code later.0 mid (suc place) operands (enclosed_walk names go) (sym (behind_single place (enclose name)))
          (later.1 operands go (moved code k (place + length (then_code first second place)) (mid + length (second mid)) operands go (behind_then first second place) below))),
    )

-- the closure is got, and a macro is made of it and of the list of its parameters' names
makes_at : (code : List Code) (place : ℕ) (names : List Val) (name : List ℕ) (offset : ℕ) (caller : Bool) (made : Making)
    → making name (macro_flags caller) (list (vals_of names)) (counts_before code (suc (suc place))) ≡ made
    → StandsAt code place (get_closure ∷ load_const (list (vals_of names)) ∷ build_macro name offset (macro_flags caller) ∷ []) → (k : ℕ) (operands : List Operand) (go : Val → Process)
    → ((v : Val) → Below (go v) (exec code k (suc (suc (suc place))) (single v ∷ operands)))
    → Below (step (asks events.get_closure (on_closure (λ c. asks (events.build_macro made c) (on_value go))))) (exec code (suc (suc (suc k))) place operands)
makes_at code place names name offset caller made is h k operands go below =
    let flags = macro_flags caller in
    let listed = list (vals_of names) in
    let second = behind_one code place get_closure (load_const listed ∷ build_macro name offset flags ∷ []) h in
    let third = behind_one code (suc place) (load_const listed) (build_macro name offset flags ∷ []) second in
    let builds : (c : Option ℕ) → Below (asks (events.build_macro made c) (on_value go)) (exec code (suc (suc k)) (suc place) (closure c ∷ operands)) = λ c.
    let P : Making → Type 0 = λ m. Below (asks (events.build_macro m c) (on_value go)) (exec code (suc k) (suc (suc place)) (single listed ∷ closure c ∷ operands)) in
    below_at code (suc place) (load_const listed) (instruction_at code (suc place) (load_const listed) (build_macro name offset flags ∷ []) second) (suc k) (closure c ∷ operands) (asks (events.build_macro made c) (on_value go))
    (subst P is
    (below_at code (suc (suc place)) (build_macro name offset flags) (instruction_at code (suc (suc place)) (build_macro name offset flags) [] third) k (single listed ∷ closure c ∷ operands)
    (asks (events.build_macro (making name flags listed (counts_before code (suc (suc place)))) c) (on_value go))
    (below-asks_value (events.build_macro (making name flags listed (counts_before code (suc (suc place)))) c) go (λ v. exec code k (suc (suc (suc place))) (single v ∷ operands)) below))) in
    below_at code place get_closure (instruction_at code place get_closure (load_const listed ∷ build_macro name offset flags ∷ []) h) (suc (suc k)) operands (step (asks events.get_closure (on_closure (λ c. asks (events.build_macro made c) (on_value go)))))
    (below-step _ _ (below-asks_closure events.get_closure (λ c. asks (events.build_macro made c) (on_value go)) (λ c. exec code (suc (suc k)) (suc place) (closure c ∷ operands)) builds))

pub listed_back : (vs : List Val) → items_of (vals_of vs) ≡ vs
listed_back [] = refl
listed_back (v ∷ vs) = ap (λ us. v ∷ us) (listed_back vs)

flags_back : (caller : Bool) → takes_caller (macro_flags caller) ≡ caller
flags_back true = refl
flags_back false = refl

-- what the code says of the making
made_so : (name : List ℕ) (texts : List Val) (caller : Bool) (found before : Counts) → found ≡ before
    → making name (macro_flags caller) (list (vals_of texts)) found ≡ record { name = name; arguments = texts; caller = caller; number = before.macros }
made_so name texts caller found before e =
    ap (λ (vs : List Val). record { name = name; arguments = vs; caller = takes_caller (macro_flags caller); number = found.macros }) (listed_back texts)
    ∙ ap (λ (b : Bool). record { name = name; arguments = texts; caller = b; number = found.macros }) (flags_back caller)
    ∙ ap (λ (c : Counts). record { name = name; arguments = texts; caller = caller; number = c.macros }) e

-- a macro is made
performs_declared : (name : List ℕ) (arguments defaults : Expressions) (body : Statements) (code : List Code) (before : Counts)
    → PerformsBehind code before (flat no_ways (declared_core name arguments defaults body (statements_core body))) (declared_walk before name arguments defaults body)
performs_declared name arguments defaults body code before place counted h =
    let inner = then_code (flat no_ways (bodied_core arguments defaults (statements_core body))) (one return) in
    let skip = skipped jump inner in
    let names = enclosed_names arguments defaults body in
    let caller = uses_caller arguments defaults body in
    let texts = name_texts arguments in
    let listed = list (vals_of texts) in
    let enclosings = flat no_ways (enclosed_core names) in
    let rest = flat no_ways (made_of_core arguments names) in
    let build = build_macro name (suc place) (macro_flags caller) in
    let last = then_code rest (one build) in
    let rest_at = place + length (skip place) in
    let get_at = rest_at + length (enclosings rest_at) in
    let made = making_of before name arguments defaults body in
    let total = counted_together before (counts_among body) in
    let skips = stands_first code place skip last h in
    let P : List Code → Type 0 = λ piece. StandsAt code rest_at piece in
    let rests = subst P (append_assoc (enclosings rest_at) (get_closure ∷ load_const listed ∷ []) (build ∷ [])) (stands_second code place skip last h) in
    let encloses_there = first_part code rest_at (enclosings rest_at) (get_closure ∷ load_const listed ∷ build ∷ []) rests in
    let gets = last_part code rest_at (enclosings rest_at) (get_closure ∷ load_const listed ∷ build ∷ []) rests in
    let loads = behind_one code get_at get_closure (load_const listed ∷ build ∷ []) gets in
    let at_rest = counted_behind code place (skip place) skips before (counts_among body) counted (counted_body arguments defaults body place) in
    let at_get = still_behind code rest_at (enclosings rest_at) encloses_there total at_rest (plain_counts (plain_enclosed names) no_ways rest_at) in
    let at_load = still_one code get_at get_closure (load_const listed ∷ build ∷ []) gets total at_get refl in
    let at_build = still_one code (suc get_at) (load_const listed) (build ∷ []) loads total at_load refl in
    let is = made_so name texts caller (counts_before code (suc (suc get_at))) total at_build in
    let leaps = suc place + length (inner (suc place)) in
    let whole : suc (suc (suc get_at)) ≡ place + length (then_code skip last place) =
    omega (arith, length-append (skip place) (last rest_at), length-append (rest rest_at) (build ∷ []), length-append (enclosings rest_at) (get_closure ∷ load_const listed ∷ [])) in
    gives_to code (declared_walk before name arguments defaults body) place (suc (suc (suc get_at))) (place + length (then_code skip last place)) whole
    (λ k.
    let closed = encloses_all names code rest_at encloses_there (suc (suc (suc k))) in (
      suc closed.0,
      λ operands go below.
          let makes : Process = step (asks events.get_closure (on_closure (λ c. asks (events.build_macro made c) (on_value go)))) in
          jumps_at code place leaps (inner (suc place)) skips closed.0 operands (enclosed_walk names makes)
          (moved code closed.0 rest_at leaps operands (enclosed_walk names makes) (sym (behind_skipped jump inner place))
          (closed.1 operands makes
          (makes_at code get_at texts name (suc place) caller made is gets k operands go below))),
    ))

-- keywords, and a last one
keywords_and : (code : List Code) (before : Counts) (args : Arguments) (name : List ℕ) (c : Core) (walk : Giving) → PerformsBehind code before (flat no_ways c) walk
    → EachNamed code before (keyword_cores args ++ alone (name, c) ∷ []) (keyword_walks args ++ alone (name, walk) ∷ [])
keywords_and code before no_arguments name c walk f = last_named f
keywords_and code before (arguments_more (keyword other e) args) name c walk f = named_more (performs e) (plain_expression e) (keywords_and code before args name c walk f)
keywords_and code before (arguments_more (keyword_spread e) args) name c walk f = merged_more (performs e) (plain_expression e) (keywords_and code before args name c walk f)
keywords_and code before (arguments_more _ args) name c walk f = keywords_and code before args name c walk f

-- a last one that is no spread changes nothing
spread_before : {X Y : Type 0} (args : List (Passing X Y)) (x : X) → has_spread (args ++ alone x ∷ []) ≡ has_spread args
spread_before [] x = refl
spread_before (alone y ∷ args) x = spread_before args x
spread_before (spreads y ∷ args) x = refl

-- the call of a call block
performs_calling : (callee : Expression) (passed : Arguments) (c : Core) (walk : Giving) (code : List Code) (before : Counts) → PerformsBehind code before (flat no_ways c) walk
    → PerformsBehind code before (flat no_ways (calling_core callee passed c)) (calling_walk callee passed walk)
performs_calling callee passed c walk code before f =
    let named = keyword_cores passed ++ alone (caller_name, c) ∷ [] in
    let walks = keyword_walks passed ++ alone (caller_name, walk) ∷ [] in
    performs_called code before (callee_of callee passed) (expression_core callee) (object_core callee) (expression_walk callee) (object_walk callee) (performs callee) (plain_expression callee) (performs_object callee) (plain_object callee)
    (positional_cores passed) (positional_walks passed) (performs_positional passed) (plain_positional passed) (spreads_alike passed) named walks (keywords_and code before passed caller_name c walk f)
    (spread_before (keyword_walks passed) (caller_name, walk) ∙ merges_alike passed ∙ sym (spread_before (keyword_cores passed) (caller_name, c)))

looping_so : (recursive : Bool) (before : Counts) → looping (loop_flags recursive) before ≡ looping_behind recursive before
looping_so true before = refl
looping_so false before = refl

-- a loop is opened
opens_loop : (recursive : Bool) (ways : Ways) → TakesAs ways (one (push_loop (loop_flags recursive))) (λ v before x go. asks (open_loop (looping_behind recursive before) v) (on_done go))
opens_loop recursive ways code place before counted h k = (
  suc k,
  λ v operands x go below outs.
      let is : act (exec code k) (counts_before code place) (Some (push_loop (loop_flags recursive))) place (single v ∷ operands) ≡ asks (open_loop (looping_behind recursive before) v) (on_done (exec code k (suc place) operands)) =
      ap (λ (l : Looping). asks (open_loop l v) (on_done (exec code k (suc place) operands))) (looping_so recursive (counts_before code place) ∙ ap (looping_behind recursive) counted) in
      done_free code place (push_loop (loop_flags recursive)) [] h k (single v ∷ operands) operands (open_loop (looping_behind recursive before) v) go is
      (moved code k (place + length (one (push_loop (loop_flags recursive)) place)) (suc place) operands go (sym (behind_single place (push_loop (loop_flags recursive)))) below),
)

mutual
  performs_statement : (n : ℕ) (s : Statement) (ways : Ways) → CountNone ways → PerformsAs ways (statement_code ways s) (λ before. statement_walk n before s)
  performs_statement n (raw text) ways none = does_one ways (emit_raw text) (write_raw text) (λ next before place operands. refl)
  performs_statement n (print e) ways none = performs_printed (printed_of e) e ways
  performs_statement n (for_loop target e condition recursive body otherwise) ways none =
      let looped = rounds_code (target_code target) (λ a b. statements_code (loop_ways a b) body) in
      let last = loop_end_code otherwise (statements_code ways otherwise) in
      let inner = counts_among body in
      let own : Counts → Counts = λ before. counted_together before (loop_counts recursive) in
      let ended : Walk = λ before x go. loop_end otherwise (statements_walk n before otherwise x go) go in
      let turned : Walk = λ before x finished. rounds n (λ v within again. target_walk target v (statements_walk n before body within again)) finished in
      let repeated : Walk = λ before x go. turned before x (ended (counted_together before inner) x go) in
      done_over ways (iterable_code target e condition) (iterable_walk n target e condition) (performs_iterable n target e condition) (passes_core (plain_iterable target e condition) no_ways)
      (then_code (one (push_loop (loop_flags recursive))) (then_code looped last)) (λ v before x go. asks (open_loop (looping_behind recursive before) v) (on_done (repeated (own before) x go)))
      (taken_then ways (one (push_loop (loop_flags recursive))) (then_code looped last) own (passes_counted (one (push_loop (loop_flags recursive))) (loop_counts recursive) (loop_flags_count recursive))
      (λ v before x go. asks (open_loop (looping_behind recursive before) v) (on_done go)) repeated (opens_loop recursive ways)
      (done_then ways looped last (λ before. counted_together before inner) (passes_counted looped inner (counted_looped target body)) turned ended
      (does_rounds n target body (λ before. statements_walk n before body) (λ a b. performs_statements n body (loop_ways a b) refl) ways)
      (ends_loop ways otherwise (statements_code ways otherwise) (λ before. statements_walk n before otherwise) (performs_statements n otherwise ways none))))
  performs_statement n (if_condition e body otherwise) ways none =
      done_with ways e (branches_code otherwise (statements_code ways body) (statements_code ways otherwise))
      (λ v before x go. step (asks (truth_of v) (on_truth (statements_walk n before body x (past otherwise go)) (statements_walk n (counted_together before (counts_among body)) otherwise x go))))
      (takes_branches ways otherwise (statements_code ways body) (statements_code ways otherwise) (counts_among body) (counted_statements body ways none) (λ before. statements_walk n before body) (λ before. statements_walk n before otherwise)
      (performs_statements n body ways none) (performs_statements n otherwise ways none) (λ before x go e. otherwise_over n before otherwise x go e))
  performs_statement n (with_block assignments body) ways none =
      let bodied = then_code (statements_code (closing_with pop_frame ways) body) (one pop_frame) in
      let inner : Walk = λ before x go. statements_walk n before body (closing close_frame x) (asks close_frame (on_done go)) in
      one_then ways push_with refl (then_code (assignments_code assignments) bodied) (λ before x go. asks open_frame (on_done go))
      (λ before x go. assignments_walk assignments (inner before x go)) (does_free ways push_with open_frame (λ next before place operands. refl))
      (done_then ways (assignments_code assignments) bodied as_many (passes_core (plain_assignments assignments) no_ways) (λ before x go. assignments_walk assignments go) inner (assigns ways assignments)
      (closed_body ways pop_frame close_frame (statements_code (closing_with pop_frame ways) body) (λ before. statements_walk n before body) (λ next before place operands. refl) (performs_statements n body (closing_with pop_frame ways) (closed_none pop_frame ways refl none))))
  performs_statement n (set target e) ways none =
      done_with ways e (target_code target) (λ v before x go. target_walk target v go) (takes_stored ways (target_code target) (target_walk target) (stores target))
  performs_statement n (set_block target absent body) ways none =
      performs_capture ways (statements_code (closing_with end_capture (closing_with discard_top ways)) body) (target_code target) (λ before. statements_walk n before body) (target_walk target) (stores target)
      (performs_statements n body (closing_with end_capture (closing_with discard_top ways)) (captured_none ways none))
  performs_statement n (set_block target (given filters) body) ways none =
      performs_capture ways (statements_code (closing_with end_capture (closing_with discard_top ways)) body) (then_code (filters_code filters) (target_code target)) (λ before. statements_walk n before body)
      (λ v go. filters_walk filters v (λ w. target_walk target w go)) (stores_over (filters_code filters) (target_code target) (filters_walk filters) (target_walk target) (over_filters filters) (stores target))
      (performs_statements n body (closing_with end_capture (closing_with discard_top ways)) (captured_none ways none))
  performs_statement n (auto_escape e body) ways none =
      let bodied = then_code (statements_code (closing_with pop_auto_escape ways) body) (one pop_auto_escape) in
      let inner : Walk = λ before x go. statements_walk n before body (closing close_escape x) (asks close_escape (on_done go)) in
      done_with ways e (then_code (one push_auto_escape) bodied) (λ v before x go. asks (open_escape v) (on_done (inner before x go)))
      (taken_then ways (one push_auto_escape) bodied as_many (passes_plain (one push_auto_escape) (λ place. refl)) (λ v before x go. asks (open_escape v) (on_done go)) inner
      (takes_free ways push_auto_escape open_escape (λ next before place v operands. refl))
      (closed_body ways pop_auto_escape close_escape (statements_code (closing_with pop_auto_escape ways) body) (λ before. statements_walk n before body) (λ next before place operands. refl) (performs_statements n body (closing_with pop_auto_escape ways) (closed_none pop_auto_escape ways refl none))))
  performs_statement n (filter_block filters body) ways none =
      performs_capture ways (statements_code (closing_with end_capture (closing_with discard_top ways)) body) (then_code (filters_code filters) (one emit)) (λ before. statements_walk n before body)
      (λ v go. filters_walk filters v (λ w. step (asks (write_value w) (on_done go)))) (stores_over (filters_code filters) (one emit) (filters_walk filters) (λ v go. step (asks (write_value v) (on_done go))) (over_filters filters) stores_printed)
      (performs_statements n body (closing_with end_capture (closing_with discard_top ways)) (captured_none ways none))
  performs_statement n (block name required body) ways none = does_one ways (call_block name) (events.call_block name) (λ next before place operands. refl)
  performs_statement n (tree.import e target) ways none =
      let module_stored = then_code (one end_capture) (then_code (one export_locals) (then_code (one pop_frame) (target_code target))) in
      let stored_walk : Walk = λ before x go. step (asks events.end_capture (on_value (λ text. asks (events.export_locals text) (on_value (λ m. asks close_frame (on_done (target_walk target m go))))))) in
      one_then ways (begin_capture true) refl (then_code (flat ways (apart_core e)) module_stored) (λ before x go. asks (events.begin_capture true) (on_done go))
      (λ before x go. apart e (stored_walk before x go)) (does_free ways (begin_capture true) (events.begin_capture true) (λ next before place operands. refl))
      (done_then ways (flat ways (apart_core e)) module_stored as_many (passes_core (plain_apart e) ways) (λ before x go. apart e go) stored_walk (performs_apart e ways)
      (done_over ways (one end_capture) (λ go. step (asks events.end_capture (on_value go))) gives_captured (passes_plain (one end_capture) (λ place. refl)) (then_code (one export_locals) (then_code (one pop_frame) (target_code target)))
      (λ text before x go. asks (events.export_locals text) (on_value (λ m. asks close_frame (on_done (target_walk target m go))))) (takes_module ways target)))
  performs_statement n (from_import e names) ways none =
      let ended = then_code (one end_capture) (one discard_top) in
      let ended_walk : Walk = λ before x go. step (asks events.end_capture (on_value (λ dropped. go))) in
      let named = then_code (expressions_code (imported_names names)) (then_code (one pop_frame) (then_code (imports_code names) ended)) in
      let named_walk : Walk = λ before x go. expressions_walk (imported_names names) (λ vs. asks close_frame (on_done (imports_stored names vs (ended_walk before x go)))) in
      one_then ways (begin_capture false) refl (then_code (flat ways (apart_core e)) named) (λ before x go. asks (events.begin_capture false) (on_done go))
      (λ before x go. apart e (named_walk before x go)) (does_free ways (begin_capture false) (events.begin_capture false) (λ next before place operands. refl))
      (done_then ways (flat ways (apart_core e)) named as_many (passes_core (plain_apart e) ways) (λ before x go. apart e go) named_walk (performs_apart e ways)
      (imports_named ways names ended ended_walk (done_over ways (one end_capture) (λ go. step (asks events.end_capture (on_value go))) gives_captured (passes_plain (one end_capture) (λ place. refl)) (one discard_top) (λ v before x go. go) (takes_dropped ways))))
  performs_statement n (extends e) ways none =
      done_with ways e (one load_blocks) (λ v before x go. asks (events.load_blocks v) (on_done go)) (takes_free ways load_blocks events.load_blocks (λ next before place v operands. refl))
  performs_statement n (tree.include e ignore_missing) ways none =
      done_with ways e (one (include ignore_missing)) (λ v before x go. step (asks (events.include ignore_missing v) (on_done go))) (takes_one ways (include ignore_missing) (events.include ignore_missing) (λ next before place v operands. refl))
  performs_statement n (macro name arguments defaults body) ways none =
      let declared = flat no_ways (declared_core name arguments defaults body (statements_core body)) in
      done_behind ways declared (λ before. declared_walk before name arguments defaults body) (performs_declared name arguments defaults body) (λ before. counted_together before (counts_by (macro name arguments defaults body)))
      (passes_counted declared (counts_by (macro name arguments defaults body)) (counted_declared name arguments defaults body (counted_statements body no_ways refl) no_ways))
      (one (store_local name)) (λ v before x go. step (asks (store name v) (on_done go))) (takes_one ways (store_local name) (store name) (λ next before place v operands. refl))
  performs_statement n (tree.call_block callee passed arguments defaults body) ways none =
      let declared = declared_core caller_name arguments defaults body (statements_core body) in
      let counts = counts_by (tree.call_block callee passed arguments defaults body) in
      done_behind ways (flat no_ways (calling_core callee passed declared)) (λ before. calling_walk callee passed (declared_walk before caller_name arguments defaults body))
      (λ code before. performs_calling callee passed declared (declared_walk before caller_name arguments defaults body) code before (performs_declared caller_name arguments defaults body code before))
      (λ before. counted_together before counts) (passes_counted (flat no_ways (calling_core callee passed declared)) counts (counted_calling callee passed arguments defaults body))
      (one emit) (λ v before x go. step (asks (write_value v) (on_done go))) (takes_one ways emit write_value (λ next before place v operands. refl))
  performs_statement n (do_call callee args) ways none = done_with ways (call callee args) (one discard_top) (λ v before x go. go) (takes_dropped ways)
  performs_statement n continue_loop ways none = leaves ways ways.continue_to (λ x go. x.on_continue) (λ code k x go operands outs. outs.on_continue)
  performs_statement n break_loop ways none = leaves ways ways.break_to (λ x go. x.on_break) (λ code k x go operands outs. outs.on_break)
  performs_statement n _ ways none = λ code place before counted h k. (0, λ operands x go below outs. below-cut_short _)

  pub performs_statements : (n : ℕ) (ss : Statements) (ways : Ways) → CountNone ways → PerformsAs ways (statements_code ways ss) (λ before. statements_walk n before ss)
  performs_statements n no_statements ways none = nothing_done ways
  performs_statements n (statements_more s ss) ways none =
      done_then ways (statement_code ways s) (statements_code ways ss) (λ before. counted_together before (counts_by s)) (passes_counted (statement_code ways s) (counts_by s) (counted_statement s ways none))
      (λ before. statement_walk n before s) (λ before. statements_walk n before ss) (performs_statement n s ways none) (performs_statements n ss ways none)
