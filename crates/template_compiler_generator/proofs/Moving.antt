-- The code of expressions, targets and assignments: how many values it takes, and how many it leaves, over any shape.
use Rattle.std.proofs.Common.{◌≡◌, ℕ, zero, suc, ◌+◌, ◌*◌, ◌<◌, ◌≤◌, Bool, true, false, ◌||◌, List, [], ◌∷◌, ◌++◌, length, Option, None, Some, slice_get, refl, sym, ap, subst, ◌∙◌, length-append, arith}
use Rattle.std.specs.Prelude.{option_and_then, option_map, if◌then◌else◌}
use Rattle.template_values_model.specs.Val.{Val, silent_undefined, none, text}
use Rattle.template_compiler_tree.specs.declared.operators.UnaryOpKind.{UnaryOpKind}
use Rattle.template_compiler_tree.specs.declared.operators.UnaryOpKind.TheVariants.{Not, Neg}
use Rattle.template_compiler_tree.specs.declared.operators.BinOpKind.{BinOpKind}
use Rattle.template_compiler_tree.specs.declared.operators.BinOpKind.TheVariants.{ScAnd, ScOr}
use Rattle.template_compiler_tree.specs.declared.operators.CompareOpKind.{CompareOpKind}
use Rattle.template_compiler_tree.specs.Tree.{Expression, Optional, Expressions, Links, Arguments, Assignments, variable, constant, unary, binary, chain, conditional, attribute, item, call, filtered, tested, list_literal, tuple_literal, map_literal, absent, given as is_given, no_expressions, expressions_more, no_links, links_more, no_arguments, arguments_more, positional, keyword, positional_spread, keyword_spread, no_assignments, assignments_more}
use Rattle.template_compiler_tree.specs.Tree as tree
use Rattle.template_compiler_walk.specs.Constants.{constant_of}
use Rattle.template_compiler_walk.specs.Expressions.{Passing, alone, spreads, has_spread, Callee, by_name, by_method, by_block, by_value, callee_of}
use Rattle.template_compiler_walk.specs.Statements.{number_of}
use Rattle.template_compiler_walk.specs.Runnable.{IsRunnable, IsRunnableIfGiven, AreRunnable, AreRunnableArguments, IsRunnableChain, AreRunnableLinks, AreFilters, IsTarget, AreTargets, AreAssignments}
use Rattle.template_compiler_code.specs.Code.{Code, store_local, lookup, load_const, get_attr, set_attr, get_item, slice, build_map, build_kwargs, merge_kwargs, call_function, call_method, call_object, call_block, begin_capture, end_capture, apply_filter, perform_test, build_list, build_tuple, unpack_list, unpack_lists, operate, compare_and_preserve, swap, discard_top, jump, jump_if_false, jump_if_false_or_pop, jump_if_true_or_pop}
use Rattle.template_compiler_code_shapes.specs.Shapes.{Shape, single_form, counted_form, handed, given, topped, with_capture}
use Rattle.template_compiler_code_shapes.specs.Effects.{Effect, falling, made, jumping, effect_of}
use Rattle.template_compiler_codegen.specs.Core.{Core, no_ways, flat}
use Rattle.template_compiler_codegen.specs.Expressions.{Coded, then_code, one, nothing, dropped, loaded, skipped, either_code, unary_code, binary_code, listed_core, mapped_core, at_most_one, stretches_core, entries_stretches_core, list_count, rest_count, merged_core, merged_count, map_count, keywords_core, keyword_count, run_core, passed_core, passed_count, called_core, no_number, object_core, positional_cores, keyword_cores, expression_core, entry_count, expression_code, optional_code, expressions_code, codes_of, entries_code, chain_code, linked_code, filter_code, filters_code, passed_code, argument_count}
use Rattle.template_compiler_codegen.specs.Statements.{target_code, targets_code, assignments_code}
use Rattle.template_compiler_codegen.proofs.Standing.{StandsAt, behind_one, instruction_at, behind_then, stands_first, stands_second, stands_either, behind_either}
use Rattle.template_compiler_codegen.proofs.Expressions.{behind_single, behind_skipped}
use Rattle.template_compiler_codegen.proofs.Passing.{no_lists}
use Rattle.template_compiler_generator.proofs.Segments.{Flows, Free, Lands, Goes, goes_to, goes_out_as, goes_nowhere, goes_on, goes_then, goes_dead, goes_with, gate, flows_left, flows_right, lands_at}
use Rattle.template_compiler_generator.proofs.Plain.{Sits, IsPlain, given_plain, taken_plain, traded_plain, lowered_plain, given_more, capture_plain, jumps_forward}

some_is : {A : Type 0} (x y : A) → Some x ≡ Some y → x ≡ y
some_is x y e = cc

-- code that takes so many values, and leaves so many
abbrev pub Moves : Coded → ℕ → ℕ → Type 0
Moves piece m k = (code : List Code) (place : ℕ) (s : Shape) → IsPlain code s → StandsAt code place (piece place) → Goes code place (place + length (piece place)) (given m s) (Some (given k s)) Free

-- a piece ends within the code
pub stands_within : (code : List Code) (place : ℕ) (piece : List Code) → StandsAt code place piece → place + length piece ≤ length code
stands_within code place piece h =
    let all : length code ≡ length (h.front ++ (piece ++ h.back)) = ap length h.is in
    let at : length h.front ≡ place = h.at in
    omega (arith, length-append h.front (piece ++ h.back), length-append piece h.back)

-- one instruction, over a shape
pub goes_past : (code : List Code) (place : ℕ) (c : Code) (s t : Shape) (N : (ℕ → Option Shape) → Type 0) → slice_get code place ≡ Some c → effect_of code place c s ≡ Some (falling t)
    → Goes code place (suc place) s (Some t) N
goes_past code place c s t N at is =
    goes_with code place (suc place) s (Some t) (Some t) (Lands (falling t)) N (goes_on code place c s (falling t) at is refl) (λ table flows. flows) (λ table stands flows needs to u e. absurd cc)

pub goes_single : (code : List Code) (place : ℕ) (c : Code) (s t : Shape) (N : (ℕ → Option Shape) → Type 0) → StandsAt code place (one c place) → effect_of code place c s ≡ Some (falling t)
    → Goes code place (place + length (one c place)) s (Some t) N
goes_single code place c s t N h is =
    goes_to code place (suc place) (place + length (one c place)) s (Some t) N (behind_single place c) (goes_past code place c s t N (instruction_at code place c [] h) is)

pub moves_one : (c : Code) (m k : ℕ) → ((code : List Code) (place : ℕ) (s : Shape) → IsPlain code s → effect_of code place c (given m s) ≡ Some (falling (given k s))) → Moves (one c) m k
moves_one c m k is code place s plain h = goes_single code place c (given m s) (given k s) Free h (is code place s plain)

pub moves_nothing : (m : ℕ) → Moves nothing m m
moves_nothing m code place s plain h =
    let same : place ≡ place + length (nothing place) = omega arith in
    goes_to code place place (place + length (nothing place)) (given m s) (Some (given m s)) Free same (goes_nowhere code place (given m s) Free)

-- two pieces, one behind the other
pub goes_both : (code : List Code) (place : ℕ) (f g : Coded) (s t u : Shape) → Goes code place (place + length (f place)) s (Some t) Free
    → Goes code (place + length (f place)) (place + length (f place) + length (g (place + length (f place)))) t (Some u) Free
    → Goes code place (place + length (then_code f g place)) s (Some u) Free
goes_both code place f g s t u x y =
    let mid = place + length (f place) in
    goes_to code place (mid + length (g mid)) (place + length (then_code f g place)) s (Some u) Free (sym (behind_then f g place))
    (goes_then code place mid (mid + length (g mid)) s t (Some t) (Some u) Free Free Free x y (λ v e. some_is t v e) (λ table stands flows needs. (tt, tt)))

pub moves_then : (f g : Coded) (m k l : ℕ) → Moves f m k → Moves g k l → Moves (then_code f g) m l
moves_then f g m k l x y code place s plain h =
    goes_both code place f g (given m s) (given k s) (given l s) (x code place s plain (stands_first code place f g h))
    (y code (place + length (f place)) s plain (stands_second code place f g h))

-- over more values
pub over_more : (f : Coded) (n : ℕ) → Moves f 0 1 → Moves f n (suc n)
over_more f n x code place s plain h = x code place (given n s) (given_plain code n s plain) h

pub over_many : (f : Coded) (n k : ℕ) → Moves f 0 n → Moves f k (n + k)
over_many f n k x code place s plain h =
    goes_out_as code place (place + length (f place)) (given k s) (given n (given k s)) (given (n + k) s) Free (given_more n k s) (x code place (given k s) (given_plain code k s plain) h)

pub under_more : (f : Coded) (n : ℕ) → Moves f 1 0 → Moves f (suc n) n
under_more f n x code place s plain h = x code place (given n s) (given_plain code n s plain) h

pub moves_loaded : (o : Option Val) (f : Coded) → Moves f 0 1 → Moves (loaded o f) 0 1
moves_loaded (Some v) f x = moves_one (load_const v) 0 1 (λ code place s plain. refl)
moves_loaded None f x = x

-- code that is leapt over with a value on top
moves_skipped : (leap : ℕ → Code) (f : Coded) (n : ℕ) → ((code : List Code) (place to : ℕ) (s : Shape) → IsPlain code s → slice_get code place ≡ Some (leap to) → place < to → to ≤ length code
    → effect_of code place (leap to) (given 1 s) ≡ Some (record { falls = Some s; jumps = Some (to, given 1 s); enters = None })) → Moves f n (suc n) → Moves (skipped leap f) (suc n) (suc n)
moves_skipped leap f n is x code place s plain h =
    let behind = suc place + length (f (suc place)) in
    let same : behind ≡ place + length (skipped leap f place) = behind_skipped leap f place in
    let within : behind ≤ length code = (let all = stands_within code place (skipped leap f place) h in omega arith) in
    let e : Effect = record { falls = Some (given n s); jumps = Some (behind, given (suc n) s); enters = None } in
    goes_to code place behind (place + length (skipped leap f place)) (given (suc n) s) (Some (given (suc n) s)) Free same
    (goes_then code place (suc place) behind (given (suc n) s) (given n s) (Some (given n s)) (Some (given (suc n) s)) (Lands e) Free Free
    (goes_on code place (leap behind) (given (suc n) s) e (instruction_at code place (leap behind) (f (suc place)) h)
    (is code place behind (given n s) (given_plain code n s plain) (instruction_at code place (leap behind) (f (suc place)) h) (omega arith) within) refl)
    (x code (suc place) s plain (behind_one code place (leap behind) (f (suc place)) h))
    (λ u g. some_is (given n s) u g)
    (λ table stands flows needs. (lands_at (Some (given n s)) behind (given (suc n) s) table (flows (given (suc n) s) refl), tt)))

leaps_false : (code : List Code) (place to : ℕ) (s : Shape) → IsPlain code s → slice_get code place ≡ Some (jump_if_false_or_pop to) → place < to → to ≤ length code → effect_of code place (jump_if_false_or_pop to) (given 1 s) ≡ Some (record { falls = Some s; jumps = Some (to, given 1 s); enters = None })
leaps_false code place to s plain at less within =
    ap (option_and_then (λ below. jumping code place (Some below) to (given 1 s))) (taken_plain 1 s plain.0) ∙ jumps_forward code place (Some s) to (given 1 s) plain.1 (jump_if_false_or_pop to) at refl less within

leaps_true : (code : List Code) (place to : ℕ) (s : Shape) → IsPlain code s → slice_get code place ≡ Some (jump_if_true_or_pop to) → place < to → to ≤ length code → effect_of code place (jump_if_true_or_pop to) (given 1 s) ≡ Some (record { falls = Some s; jumps = Some (to, given 1 s); enters = None })
leaps_true code place to s plain at less within =
    ap (option_and_then (λ below. jumping code place (Some below) to (given 1 s))) (taken_plain 1 s plain.0) ∙ jumps_forward code place (Some s) to (given 1 s) plain.1 (jump_if_true_or_pop to) at refl less within

pub tests_on : (code : List Code) (place to : ℕ) (s : Shape) → IsPlain code s → slice_get code place ≡ Some (jump_if_false to) → place < to → to ≤ length code → effect_of code place (jump_if_false to) (given 1 s) ≡ Some (record { falls = Some s; jumps = Some (to, s); enters = None })
tests_on code place to s plain at less within =
    ap (option_and_then (λ below. jumping code place (Some below) to below)) (taken_plain 1 s plain.0) ∙ jumps_forward code place (Some s) to s plain.1 (jump_if_false to) at refl less within

-- two segments of which a value chooses one: the first leads past the second
module _ (code : List Code) (place : ℕ) (first second : Coded) (s t : Shape) (N : (ℕ → Option Shape) → Type 0) where
  abbrev leap_at : ℕ
  leap_at = suc place + length (first (suc place))

  abbrev begins_at : ℕ
  begins_at = suc leap_at

  abbrev behind_at : ℕ
  behind_at = begins_at + length (second begins_at)

  abbrev First : Bool → (ℕ → Option Shape) → Type 0
  First x table = (table begins_at ≡ Some s) × N table × Flows table (gate x t) behind_at

  test_taken : (x : Bool) → IsPlain code s → behind_at ≤ length code → StandsAt code place (either_code first second place) → Goes code (suc place) leap_at s (gate x t) N → Goes code place leap_at (given 1 s) (gate x t) (First x)
  test_taken x plain within h f =
      let parts = stands_either code place first second h in
      let e : Effect = record { falls = Some s; jumps = Some (begins_at, s); enters = None } in
      goes_then code place (suc place) leap_at (given 1 s) s (Some s) (gate x t) (Lands e) N (First x)
      (goes_on code place (jump_if_false begins_at) (given 1 s) e (instruction_at code place (jump_if_false begins_at) parts.test parts.tests) (tests_on code place begins_at s plain (instruction_at code place (jump_if_false begins_at) parts.test parts.tests) (omega arith) (omega arith)) refl)
      f (λ u g. some_is s u g) (λ table stands flows needs. (lands_at (Some s) begins_at s table needs.0, needs.1))

  led_past : (x : Bool) → IsPlain code s → behind_at ≤ length code → StandsAt code place (either_code first second place) → Goes code place leap_at (given 1 s) (gate x t) (First x) → Goes code place begins_at (given 1 s) None (First x)
  led_past false plain within h f = goes_dead code place leap_at begins_at (given 1 s) (First false) (omega arith) f
  led_past true plain within h f =
      let parts = stands_either code place first second h in
      let e : Effect = record { falls = None; jumps = Some (behind_at, t); enters = None } in
      goes_then code place leap_at begins_at (given 1 s) t (Some t) None (First true) (Lands e) (First true)
      f (goes_on code leap_at (jump behind_at) t e (instruction_at code leap_at (jump behind_at) parts.rest parts.leaps) (jumps_forward code leap_at None behind_at t plain.1 (jump behind_at) (instruction_at code leap_at (jump behind_at) parts.rest parts.leaps) refl (omega arith) within) refl)
      (λ u g. some_is t u g) (λ table stands flows needs. (needs, lands_at None behind_at t table (needs.2 t refl)))

  pub goes_either : (x y : Bool) → IsPlain code s → StandsAt code place (either_code first second place) → Goes code (suc place) leap_at s (gate x t) N → Goes code begins_at behind_at s (gate y t) N
      → Goes code place (place + length (either_code first second place)) (given 1 s) (gate (x || y) t) N
  goes_either x y plain h f g =
      let same : behind_at ≡ place + length (either_code first second place) = behind_either first second place in
      let within : behind_at ≤ length code = (let all = stands_within code place (either_code first second place) h in omega arith) in
      goes_to code place behind_at (place + length (either_code first second place)) (given 1 s) (gate (x || y) t) N same
      (goes_then code place begins_at behind_at (given 1 s) s None (gate (x || y) t) (First x) N N
      (led_past x plain within h (test_taken x plain within h f))
      (goes_with code begins_at behind_at s (gate y t) (gate (x || y) t) N N g (λ table flows. flows_right x y t table behind_at flows) (λ table stands flows needs. needs))
      (λ u e. absurd cc) (λ table stands flows needs. ((stands, needs, flows_left x y t table behind_at flows), needs)))

moves_either : (f g : Coded) → Moves f 0 1 → Moves g 0 1 → Moves (either_code f g) 1 1
moves_either f g x y code place s plain h =
    let parts = stands_either code place f g h in
    goes_either code place f g s (given 1 s) Free true true plain h (x code (suc place) s plain parts.left) (y code (suc (suc place + length (f (suc place)))) s plain parts.right)

-- operators

unary_moves : (op : UnaryOpKind) → Moves (one (unary_code op)) 1 1
unary_moves Not = moves_one (unary_code Not) 1 1 (λ code place s plain. traded_plain 1 1 s plain.0)
unary_moves Neg = moves_one (unary_code Neg) 1 1 (λ code place s plain. traded_plain 1 1 s plain.0)

operate_moves : (op : BinOpKind) (f g : Coded) → Moves f 0 1 → Moves g 0 1 → Moves (then_code f (then_code g (one (operate op)))) 0 1
operate_moves op f g x y =
    moves_then f (then_code g (one (operate op))) 0 1 1 x
    (moves_then g (one (operate op)) 1 2 1 (over_more g 1 y) (moves_one (operate op) 2 1 (λ code place s plain. traded_plain 2 1 s plain.0)))

binary_moves : (op : BinOpKind) (f g : Coded) → Moves f 0 1 → Moves g 0 1 → Moves (binary_code op f g) 0 1
binary_moves ScAnd f g x y = moves_then f (skipped jump_if_false_or_pop g) 0 1 1 x (moves_skipped jump_if_false_or_pop g 0 leaps_false y)
binary_moves ScOr f g x y = moves_then f (skipped jump_if_true_or_pop g) 0 1 1 x (moves_skipped jump_if_true_or_pop g 0 leaps_true y)
binary_moves op f g x y = operate_moves op f g x y

-- a comparison, and the links behind it
compared_moves : (op : CompareOpKind) (f : Coded) → Moves f 0 1 → Moves (then_code f (one (compare_and_preserve op))) 1 2
compared_moves op f x = moves_then f (one (compare_and_preserve op)) 1 2 2 (over_more f 1 x) (moves_one (compare_and_preserve op) 2 2 (λ code place s plain. traded_plain 2 2 s plain.0))

dropped_moves : Moves dropped 2 1
dropped_moves = moves_then (one swap) (one discard_top) 2 2 1 (moves_one swap 2 2 (λ code place s plain. traded_plain 2 2 s plain.0))
    (λ code place s plain h. moves_one discard_top 1 0 (λ code place t plain. traded_plain 1 0 t plain.0) code place (given 1 s) (given_plain code 1 s plain) h)

-- each piece of code leaves a value
abbrev EachMoves : List Core → Type 0
EachMoves [] = Unit {0}
EachMoves (piece ∷ pieces) = Moves (flat no_ways piece) 0 1 × EachMoves pieces

two_more : (n : ℕ) → n * 2 + 2 ≡ suc n * 2
two_more n = omega arith

-- numbers that are told in another way
pub moves_as : (f : Coded) (m n k l : ℕ) → m ≡ n → k ≡ l → Moves f m k → Moves f n l
moves_as f m n k l e d x = let P : ℕ → Type 0 = λ i. Moves f i l in let Q : ℕ → Type 0 = λ i. Moves f m i in subst P e (subst Q d x)

-- over so many values that are left as they are
pub over_below : (f : Coded) (m k j : ℕ) → Moves f m k → Moves f (m + j) (k + j)
over_below f m k j x code place s plain h =
    let behind = place + length (f place) in
    let P : Shape → Type 0 = λ t. Goes code place behind t (Some (given (k + j) s)) Free in
    subst P (given_more m j s)
    (goes_out_as code place behind (given m (given j s)) (given k (given j s)) (given (k + j) s) Free (given_more k j s) (x code place (given j s) (given_plain code j s plain) h))

-- each argument leaves a value
abbrev pub EachPassed : List (Passing Core Core) → Type 0
EachPassed [] = Unit {0}
EachPassed (alone c ∷ args) = Moves (flat no_ways c) 0 1 × EachPassed args
EachPassed (spreads c ∷ args) = Moves (flat no_ways c) 0 1 × EachPassed args

abbrev pub EachNamed : List (Passing (List ℕ × Core) Core) → Type 0
EachNamed [] = Unit {0}
EachNamed (alone c ∷ named) = Moves (flat no_ways c.1) 0 1 × EachNamed named
EachNamed (spreads c ∷ named) = Moves (flat no_ways c) 0 1 × EachNamed named

listed_moves : (n : ℕ) → Moves (flat no_ways (listed_core n)) n (at_most_one n)
listed_moves zero = moves_nothing 0
listed_moves (suc n) = moves_one (build_list (Some (suc n))) (suc n) 1 (λ code place s plain. traded_plain (suc n) 1 s plain.0)

mapped_moves : (n : ℕ) → Moves (flat no_ways (mapped_core n)) (n * 2) (at_most_one n)
mapped_moves zero = moves_as nothing 0 (0 * 2) 0 0 (omega arith) refl (moves_nothing 0)
mapped_moves (suc n) = moves_one (build_kwargs (suc n)) (suc n * 2) 1 (λ code place s plain. traded_plain (suc n * 2) 1 s plain.0)

-- stretches of arguments leave their lists and spreads, and the last stretch
stretches_move : (n : ℕ) (args : List (Passing Core Core)) → EachPassed args → Moves (flat no_ways (stretches_core n args)) n (list_count n args + rest_count n args)
stretches_move n [] each = moves_as nothing n n n (0 + n) refl (omega arith) (moves_nothing n)
stretches_move n (alone c ∷ args) each =
    moves_then (flat no_ways c) (flat no_ways (stretches_core (suc n) args)) n (suc n) (list_count (suc n) args + rest_count (suc n) args)
    (over_more (flat no_ways c) n each.0) (stretches_move (suc n) args each.1)
stretches_move n (spreads c ∷ args) each =
    let one_list = at_most_one n in
    let more = flat no_ways (stretches_core 0 args) in
    let lists = list_count 0 args in
    let rest = rest_count 0 args in
    let last = (one_list + suc lists) + rest in
    moves_then (flat no_ways (listed_core n)) (then_code (flat no_ways c) more) n one_list last (listed_moves n)
    (moves_then (flat no_ways c) more one_list (suc one_list) last (over_more (flat no_ways c) one_list each.0)
    (moves_as more (0 + suc one_list) (suc one_list) ((lists + rest) + suc one_list) last (omega arith) (omega arith)
    (over_below more 0 (lists + rest) (suc one_list) (stretches_move 0 args each.1))))

-- so it is of names with their values
named_move : (n : ℕ) (named : List (Passing (List ℕ × Core) Core)) → EachNamed named → Moves (flat no_ways (entries_stretches_core n named)) (n * 2) (list_count n named + rest_count n named * 2)
named_move n [] each = moves_as nothing (n * 2) (n * 2) (n * 2) (0 + n * 2) refl (omega arith) (moves_nothing (n * 2))
named_move n (alone c ∷ named) each =
    let value = flat no_ways c.1 in
    let more = flat no_ways (entries_stretches_core (suc n) named) in
    let last = list_count (suc n) named + rest_count (suc n) named * 2 in
    let two : suc n * 2 ≡ suc (suc (n * 2)) = omega arith in
    moves_then (one (load_const (text c.0))) (then_code value more) (n * 2) (suc (n * 2)) last
    (over_more (one (load_const (text c.0))) (n * 2) (moves_one (load_const (text c.0)) 0 1 (λ code place s plain. refl)))
    (moves_then value more (suc (n * 2)) (suc (suc (n * 2))) last (over_more value (suc (n * 2)) each.0)
    (moves_as more (suc n * 2) (suc (suc (n * 2))) last last two refl (named_move (suc n) named each.1)))
named_move n (spreads c ∷ named) each =
    let one_map = at_most_one n in
    let more = flat no_ways (entries_stretches_core 0 named) in
    let maps = list_count 0 named in
    let rest = rest_count 0 named * 2 in
    let last = (one_map + suc maps) + rest in
    moves_then (flat no_ways (mapped_core n)) (then_code (flat no_ways c) more) (n * 2) one_map last (mapped_moves n)
    (moves_then (flat no_ways c) more one_map (suc one_map) last (over_more (flat no_ways c) one_map each.0)
    (moves_as more (0 * 2 + suc one_map) (suc one_map) ((maps + rest) + suc one_map) last (omega arith) (omega arith)
    (over_below more (0 * 2) (maps + rest) (suc one_map) (named_move 0 named each.1))))

merged_moves : (several : Bool) (n : ℕ) → Moves (flat no_ways (merged_core several n)) n (merged_count several n)
merged_moves false n = moves_nothing n
merged_moves true n = moves_one (merge_kwargs n) n 1 (λ code place s plain. traded_plain n 1 s plain.0)

keywords_move : (named : List (Passing (List ℕ × Core) Core)) → EachNamed named → Moves (flat no_ways (keywords_core named)) 0 (keyword_count named)
keywords_move named each =
    let maps = list_count 0 named in
    let rest = rest_count 0 named in
    let first = flat no_ways (entries_stretches_core 0 named) in
    let mapped = flat no_ways (mapped_core rest) in
    let merged = flat no_ways (merged_core (has_spread named) (map_count named)) in
    moves_then first (then_code mapped merged) 0 (maps + rest * 2) (keyword_count named)
    (moves_as first (0 * 2) 0 (maps + rest * 2) (maps + rest * 2) (omega arith) refl (named_move 0 named each))
    (moves_then mapped merged (maps + rest * 2) (map_count named) (keyword_count named)
    (moves_as mapped (rest * 2 + maps) (maps + rest * 2) (at_most_one rest + maps) (map_count named) (omega arith) (omega arith) (over_below mapped (rest * 2) (at_most_one rest) maps (mapped_moves rest)))
    (merged_moves (has_spread named) (map_count named)))

-- values as they are handed over: so many, or a counted run
abbrev with_handed : Option ℕ → Shape → Shape
with_handed None s = topped counted_form s
with_handed (Some n) s = given n s

handed_plain : (count : Option ℕ) (s : Shape) → Sits s → handed count (with_handed count s) ≡ Some s
handed_plain None s plain = lowered_plain s (topped counted_form s).operands plain
handed_plain (Some n) s plain = taken_plain n s plain

-- code that takes so many values, and hands over
abbrev HandsOver : Coded → ℕ → Option ℕ → Type 0
HandsOver piece m count = (code : List Code) (place : ℕ) (s : Shape) → IsPlain code s → StandsAt code place (piece place) → Goes code place (place + length (piece place)) (given m s) (Some (with_handed count s)) Free

hands_then : (f g : Coded) (m k : ℕ) (count : Option ℕ) → Moves f m k → HandsOver g k count → HandsOver (then_code f g) m count
hands_then f g m k count x y code place s plain h =
    goes_both code place f g (given m s) (given k s) (with_handed count s) (x code place s plain (stands_first code place f g h))
    (y code (place + length (f place)) s plain (stands_second code place f g h))

run_hands : (spread_one : Bool) (lists n : ℕ) → (spread_one ≡ false → lists ≡ 0) → HandsOver (flat no_ways (run_core spread_one lists n)) (lists + n) (if spread_one then None else Some n)
run_hands false lists n unlisted =
    let no_list : lists ≡ 0 = unlisted refl in
    moves_as nothing n (lists + n) n n (omega (arith, no_list)) refl (moves_nothing n)
run_hands true lists n unlisted =
    let listed = flat no_ways (listed_core n) in
    let count = lists + at_most_one n in
    hands_then listed (one (unpack_lists count)) (lists + n) count None
    (moves_as listed (n + lists) (lists + n) (at_most_one n + lists) count (omega arith) (omega arith) (over_below listed n (at_most_one n) lists (listed_moves n)))
    (λ code place s plain h. goes_single code place (unpack_lists count) (given count s) (topped counted_form s) Free h (ap (made counted_form) (taken_plain count s plain.0)))

passed_hands : (front : ℕ) (args : List (Passing Core Core)) (named : List (Passing (List ℕ × Core) Core)) → EachPassed args → EachNamed named
    → HandsOver (flat no_ways (passed_core front args named)) front (passed_count front args named)
passed_hands front args named each others =
    let lists = list_count front args in
    let rest = rest_count front args in
    let keywords = flat no_ways (keywords_core named) in
    let count = rest + keyword_count named in
    let run = flat no_ways (run_core (has_spread args) lists count) in
    hands_then (flat no_ways (stretches_core front args)) (then_code keywords run) front (lists + rest) (passed_count front args named) (stretches_move front args each)
    (hands_then keywords run (lists + rest) (lists + count) (passed_count front args named)
    (moves_as keywords (0 + (lists + rest)) (lists + rest) (keyword_count named + (lists + rest)) (lists + count) (omega arith) (omega arith)
    (over_below keywords 0 (keyword_count named) (lists + rest) (keywords_move named others)))
    (run_hands (has_spread args) lists count (no_lists front args)))

-- arguments, and an instruction that takes them
applied_moves : (front : ℕ) (args : List (Passing Core Core)) (named : List (Passing (List ℕ × Core) Core)) → EachPassed args → EachNamed named → (c : Code)
    → ((code : List Code) (place : ℕ) (s : Shape) → effect_of code place c s ≡ made single_form (handed (passed_count front args named) s))
    → Moves (then_code (flat no_ways (passed_core front args named)) (one c)) front 1
applied_moves front args named each others c is code place s plain h =
    let passed = flat no_ways (passed_core front args named) in
    let count = passed_count front args named in
    let mid = place + length (passed place) in
    goes_both code place passed (one c) (given front s) (with_handed count s) (given 1 s)
    (passed_hands front args named each others code place s plain (stands_first code place passed (one c) h))
    (goes_single code mid c (with_handed count s) (given 1 s) Free (stands_second code place passed (one c) h)
    (is code mid (with_handed count s) ∙ ap (made single_form) (handed_plain count s plain.0)))

-- a block's text
block_moves : (name : List ℕ) → Moves (then_code (one (begin_capture true)) (then_code (one (call_block name)) (one end_capture))) 0 1
block_moves name code place s plain h =
    let first = one (begin_capture true) in
    let second = one (call_block name) in
    let last = one end_capture in
    let s1 = with_capture s in
    let mid = place + length (first place) in
    let last_at = mid + length (second mid) in
    let behind = stands_second code place first (then_code second last) h in
    goes_both code place first (then_code second last) s s1 (given 1 s)
    (goes_single code place (begin_capture true) s s1 Free (stands_first code place first (then_code second last) h) refl)
    (goes_both code mid second last s1 s1 (given 1 s)
    (goes_single code mid (call_block name) s1 s1 Free (stands_first code mid second last behind) refl)
    (goes_single code last_at end_capture s1 (given 1 s) Free (stands_second code mid second last behind)
    (ap (option_map (λ below. falling (given 1 below))) (capture_plain s plain.0))))

pub called_moves : (callee : Callee) (whole object : Core) (args : List (Passing Core Core)) (named : List (Passing (List ℕ × Core) Core)) → Moves (flat no_ways whole) 0 1
    → ((name : List ℕ) → callee ≡ by_method name → Moves (flat no_ways object) 0 1) → EachPassed args → EachNamed named
    → Moves (flat no_ways (called_core callee whole object args named)) 0 1
called_moves (by_name name) whole object args named f g each others =
    applied_moves 0 args named each others (call_function name (passed_count 0 args named)) (λ code place s. refl)
called_moves (by_method name) whole object args named f g each others =
    let c = call_method name (passed_count 1 args named) in
    moves_then (flat no_ways object) (then_code (flat no_ways (passed_core 1 args named)) (one c)) 0 1 1 (g name refl) (applied_moves 1 args named each others c (λ code place s. refl))
called_moves (by_block name) whole object args named f g each others = block_moves name
called_moves by_value whole object args named f g each others =
    let c = call_object (passed_count 1 args named) in
    moves_then (flat no_ways whole) (then_code (flat no_ways (passed_core 1 args named)) (one c)) 0 1 1 f (applied_moves 1 args named each others c (λ code place s. refl))

mutual
  pub expression_moves : (e : Expression) → IsRunnable e → Moves (expression_code e) 0 1
  expression_moves (variable name) r = moves_one (lookup name) 0 1 (λ code place s plain. refl)
  expression_moves (constant v) r = moves_one (load_const v) 0 1 (λ code place s plain. refl)
  expression_moves (unary op e) r =
      moves_loaded (constant_of (unary op e)) (then_code (expression_code e) (one (unary_code op)))
      (moves_then (expression_code e) (one (unary_code op)) 0 1 1 (expression_moves e r) (unary_moves op))
  expression_moves (binary op left right) r =
      moves_loaded (constant_of (binary op left right)) (binary_code op (expression_code left) (expression_code right))
      (binary_moves op (expression_code left) (expression_code right) (expression_moves left r.0) (expression_moves right r.1))
  expression_moves (chain first links) r =
      moves_loaded (constant_of (chain first links)) (then_code (expression_code first) (chain_code links))
      (moves_then (expression_code first) (chain_code links) 0 1 1 (expression_moves first r.0) (chain_moves links r.1))
  expression_moves (conditional test branch otherwise) r =
      moves_then (expression_code test) (either_code (expression_code branch) (optional_code silent_undefined otherwise)) 0 1 1 (expression_moves test r.0)
      (moves_either (expression_code branch) (optional_code silent_undefined otherwise) (expression_moves branch r.1) (optional_moves otherwise silent_undefined r.2))
  expression_moves (attribute e name) r =
      moves_then (expression_code e) (one (get_attr name)) 0 1 1 (expression_moves e r) (moves_one (get_attr name) 1 1 (λ code place s plain. traded_plain 1 1 s plain.0))
  expression_moves (item e key) r =
      moves_then (expression_code e) (then_code (expression_code key) (one get_item)) 0 1 1 (expression_moves e r.0)
      (moves_then (expression_code key) (one get_item) 1 2 1 (over_more (expression_code key) 1 (expression_moves key r.1)) (moves_one get_item 2 1 (λ code place s plain. traded_plain 2 1 s plain.0)))
  expression_moves (tree.slice e start stop by) r =
      let sliced = one slice in
      let third = then_code (optional_code none by) sliced in
      let second = then_code (optional_code none stop) third in
      moves_then (expression_code e) (then_code (optional_code none start) second) 0 1 1 (expression_moves e r.0)
      (moves_then (optional_code none start) second 1 2 1 (over_more (optional_code none start) 1 (optional_moves start none r.1))
      (moves_then (optional_code none stop) third 2 3 1 (over_more (optional_code none stop) 2 (optional_moves stop none r.2))
      (moves_then (optional_code none by) sliced 3 4 1 (over_more (optional_code none by) 3 (optional_moves by none r.3)) (moves_one slice 4 1 (λ code place s plain. traded_plain 4 1 s plain.0)))))
  expression_moves (list_literal es) r =
      moves_loaded (constant_of (list_literal es)) (then_code (expressions_code es) (one (build_list (Some (number_of es)))))
      (moves_then (expressions_code es) (one (build_list (Some (number_of es)))) 0 (number_of es) 1 (all_move es r) (moves_one (build_list (Some (number_of es))) (number_of es) 1 (λ code place s plain. traded_plain (number_of es) 1 s plain.0)))
  expression_moves (tuple_literal es) r =
      moves_loaded (constant_of (tuple_literal es)) (then_code (expressions_code es) (one (build_tuple (Some (number_of es)))))
      (moves_then (expressions_code es) (one (build_tuple (Some (number_of es)))) 0 (number_of es) 1 (all_move es r) (moves_one (build_tuple (Some (number_of es))) (number_of es) 1 (λ code place s plain. traded_plain (number_of es) 1 s plain.0)))
  expression_moves (map_literal ks vs) r =
      let count = entry_count ks (codes_of vs) in
      moves_loaded (constant_of (map_literal ks vs)) (then_code (entries_code ks (codes_of vs)) (one (build_map count)))
      (moves_then (entries_code ks (codes_of vs)) (one (build_map count)) 0 (count * 2) 1 (entries_move ks (codes_of vs) r.0 (each_moves vs r.1))
      (moves_one (build_map count) (count * 2) 1 (λ code place s plain. traded_plain (count * 2) 1 s plain.0)))
  expression_moves (call callee args) r =
      called_moves (callee_of callee args) (expression_core callee) (object_core callee) (positional_cores args) (keyword_cores args) (expression_moves callee r.0)
      (λ name is. object_moves callee args r.0 name is) (positional_move args r.1) (keyword_move args r.1)
  expression_moves (filtered name (is_given e) args) r =
      moves_then (expression_code e) (filter_code name args) 0 1 1 (expression_moves e r.0)
      (applied_moves 1 (positional_cores args) (keyword_cores args) (positional_move args r.1) (keyword_move args r.1) (apply_filter name (argument_count 1 args) no_number) (λ code place s. refl))
  expression_moves (tested name e args) r =
      let c = perform_test name (argument_count 1 args) no_number in
      moves_then (expression_code e) (then_code (passed_code 1 args) (one c)) 0 1 1 (expression_moves e r.0)
      (applied_moves 1 (positional_cores args) (keyword_cores args) (positional_move args r.1) (keyword_move args r.1) c (λ code place s. refl))
  expression_moves _ r = absurd r

  -- the object of a method
  pub object_moves : (e : Expression) (args : Arguments) → IsRunnable e → (name : List ℕ) → callee_of e args ≡ by_method name → Moves (flat no_ways (object_core e)) 0 1
  object_moves (attribute e name) args r other is = expression_moves e r
  object_moves (variable name) args r other is = absurd cc
  object_moves _ args r other is = absurd cc

  pub positional_move : (args : Arguments) → AreRunnableArguments args → EachPassed (positional_cores args)
  positional_move no_arguments r = tt
  positional_move (arguments_more (positional e) args) r = (expression_moves e r.0, positional_move args r.1)
  positional_move (arguments_more (keyword name e) args) r = positional_move args r.1
  positional_move (arguments_more (positional_spread e) args) r = (expression_moves e r.0, positional_move args r.1)
  positional_move (arguments_more (keyword_spread e) args) r = positional_move args r.1

  pub keyword_move : (args : Arguments) → AreRunnableArguments args → EachNamed (keyword_cores args)
  keyword_move no_arguments r = tt
  keyword_move (arguments_more (positional e) args) r = keyword_move args r.1
  keyword_move (arguments_more (keyword name e) args) r = (expression_moves e r.0, keyword_move args r.1)
  keyword_move (arguments_more (positional_spread e) args) r = keyword_move args r.1
  keyword_move (arguments_more (keyword_spread e) args) r = (expression_moves e r.0, keyword_move args r.1)

  optional_moves : (o : Optional) (missing : Val) → IsRunnableIfGiven o → Moves (optional_code missing o) 0 1
  optional_moves absent missing r = moves_one (load_const missing) 0 1 (λ code place s plain. refl)
  optional_moves (is_given e) missing r = expression_moves e r

  pub all_move : (es : Expressions) → AreRunnable es → Moves (expressions_code es) 0 (number_of es)
  all_move no_expressions r = moves_nothing 0
  all_move (expressions_more e es) r =
      let later : Moves (expressions_code es) 1 (suc (number_of es)) = (let P : ℕ → Type 0 = λ n. Moves (expressions_code es) 1 n in
      let same : number_of es + 1 ≡ suc (number_of es) = omega arith in
      subst P same (over_many (expressions_code es) (number_of es) 1 (all_move es r.1))) in
      moves_then (expression_code e) (expressions_code es) 0 1 (suc (number_of es)) (expression_moves e r.0) later

  each_moves : (es : Expressions) → AreRunnable es → EachMoves (codes_of es)
  each_moves no_expressions r = tt
  each_moves (expressions_more e es) r = (expression_moves e r.0, each_moves es r.1)

  entries_move : (ks : Expressions) (pieces : List Core) → AreRunnable ks → EachMoves pieces → Moves (entries_code ks pieces) 0 (entry_count ks pieces * 2)
  entries_move no_expressions pieces r each = moves_nothing 0
  entries_move (expressions_more k ks) [] r each = moves_nothing 0
  entries_move (expressions_more k ks) (piece ∷ pieces) r each =
      let n = entry_count ks pieces in
      let more = entries_code ks pieces in
      let later : Moves more 2 (suc n * 2) = (let P : ℕ → Type 0 = λ m. Moves more 2 m in subst P (two_more n) (over_many more (n * 2) 2 (entries_move ks pieces r.1 each.1))) in
      let value = flat no_ways piece in
      moves_then (expression_code k) (then_code value more) 0 1 (suc n * 2) (expression_moves k r.0) (moves_then value more 1 2 (suc n * 2) (over_more value 1 each.0) later)

  chain_moves : (links : Links) → IsRunnableChain links → Moves (chain_code links) 1 1
  chain_moves no_links r = absurd r
  chain_moves (links_more op e links) r =
      moves_then (then_code (expression_code e) (one (compare_and_preserve op))) (then_code (linked_code links) dropped) 1 2 1 (compared_moves op (expression_code e) (expression_moves e r.0))
      (moves_then (linked_code links) dropped 2 2 1 (linked_moves links r.1) dropped_moves)

  linked_moves : (links : Links) → AreRunnableLinks links → Moves (linked_code links) 2 2
  linked_moves no_links r = moves_nothing 2
  linked_moves (links_more op e links) r =
      let first = then_code (expression_code e) (one (compare_and_preserve op)) in
      moves_skipped jump_if_false_or_pop (then_code first (linked_code links)) 1 leaps_false
      (moves_then first (linked_code links) 1 2 2 (compared_moves op (expression_code e) (expression_moves e r.0)) (linked_moves links r.1))

-- the filters of a block take a value, and leave one
pub filters_move : (e : Expression) → AreFilters e → Moves (filters_code e) 1 1
filters_move (filtered name absent args) r =
    applied_moves 1 (positional_cores args) (keyword_cores args) (positional_move args r) (keyword_move args r) (apply_filter name (argument_count 1 args) no_number) (λ code place s. refl)
filters_move (filtered name (is_given e) args) r =
    moves_then (filters_code e) (filter_code name args) 1 1 1 (filters_move e r.0)
    (applied_moves 1 (positional_cores args) (keyword_cores args) (positional_move args r.1) (keyword_move args r.1) (apply_filter name (argument_count 1 args) no_number) (λ code place s. refl))
filters_move _ r = absurd r

-- a value is stored in a target
mutual
  pub target_moves : (e : Expression) → IsTarget e → Moves (target_code e) 1 0
  target_moves (variable name) r = moves_one (store_local name) 1 0 (λ code place s plain. traded_plain 1 0 s plain.0)
  target_moves (attribute e name) r =
      moves_then (expression_code e) (one (set_attr name)) 1 2 0 (over_more (expression_code e) 1 (expression_moves e r))
      (moves_one (set_attr name) 2 0 (λ code place s plain. traded_plain 2 0 s plain.0))
  target_moves (list_literal targets) r =
      moves_then (one (unpack_list (number_of targets))) (targets_code targets) 1 (number_of targets) 0
      (moves_one (unpack_list (number_of targets)) 1 (number_of targets) (λ code place s plain. traded_plain 1 (number_of targets) s plain.0)) (targets_move targets r)
  target_moves _ r = absurd r

  targets_move : (es : Expressions) → AreTargets es → Moves (targets_code es) (number_of es) 0
  targets_move no_expressions r = moves_nothing 0
  targets_move (expressions_more e es) r =
      moves_then (target_code e) (targets_code es) (suc (number_of es)) (number_of es) 0 (under_more (target_code e) (number_of es) (target_moves e r.0)) (targets_move es r.1)

pub assignments_move : (a : Assignments) → AreAssignments a → Moves (assignments_code a) 0 0
assignments_move no_assignments r = moves_nothing 0
assignments_move (assignments_more target e more) r =
    moves_then (expression_code e) (then_code (target_code target) (assignments_code more)) 0 1 0 (expression_moves e r.1)
    (moves_then (target_code target) (assignments_code more) 1 0 0 (target_moves target r.0) (assignments_move more r.2))
