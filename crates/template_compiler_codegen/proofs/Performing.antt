-- The code of each expression performs its walk.
use Rattle.std.proofs.Common.{◌≡◌, ℕ, ◌+◌, suc, true, List, [], ◌∷◌, length, Some, refl, sym, ap, subst, ◌∙◌, arith}
use Rattle.template_values_model.specs.Val.{Val, silent_undefined, none}
use Rattle.template_compiler_tree.specs.declared.operators.UnaryOpKind.{UnaryOpKind}
use Rattle.template_compiler_tree.specs.declared.operators.UnaryOpKind.TheVariants.{Not, Neg}
use Rattle.template_compiler_tree.specs.declared.operators.BinOpKind.{BinOpKind}
use Rattle.template_compiler_tree.specs.declared.operators.BinOpKind.TheVariants.{ScAnd, ScOr}
use Rattle.template_compiler_tree.specs.declared.operators.CompareOpKind.{CompareOpKind}
use Rattle.template_compiler_tree.specs.Tree.{Expression, Optional, Expressions, Links, Arguments, variable, constant, unary, binary, chain, conditional, attribute, item, call, filtered, tested, list_literal, tuple_literal, map_literal, absent, given, no_expressions, expressions_more, no_links, links_more, no_arguments, arguments_more, positional, keyword, positional_spread, keyword_spread}
use Rattle.template_compiler_tree.specs.Tree as tree
use Rattle.template_compiler_process.specs.Process as events
use Rattle.template_compiler_process.specs.Process.{Counts, Ask, truth_of, Process, step, asks, cut_short, on_done, on_value, on_truth, Below}
use Rattle.template_compiler_process.proofs.Below.{below-cut_short, below-step}
use Rattle.template_compiler_walk.specs.Constants.{constant_of}
use Rattle.template_compiler_walk.specs.Statements.{number_of}
use Rattle.template_compiler_walk.specs.Expressions.{unary_ask, binary_walk, Giving, Passing, has_spread, passed_walk, Callee, by_name, by_method, by_block, by_value, callee_of, block_walk, called_walk, expression_walk, object_walk, positional_walks, keyword_walks, optional_walk, expressions_walk, walks_of, entries_walk, chain_walk, linked_walk}
use Rattle.template_compiler_code.specs.Code.{Operand, single, Code, lookup, get_attr, get_item, slice, build_map, build_list, build_tuple, call_function, call_method, call_object, call_block, apply_filter, perform_test, begin_capture, end_capture, operate, negate, invert, compare_and_preserve, swap, discard_top, jump_if_false_or_pop}
use Rattle.template_compiler_code.specs.Counting.{counts_before}
use Rattle.template_compiler_code.specs.Steps.{handed, on_taken, act, exec}
use Rattle.template_compiler_codegen.specs.Core.{Core, no_ways, flat}
use Rattle.template_compiler_codegen.specs.Expressions.{Coded, then_code, one, nothing, dropped, skipped, either_code, unary_code, binary_code, called_core, no_number, passed_count, passed_core, expression_core, object_core, positional_cores, keyword_cores, expression_code, optional_code, expressions_code, codes_of, entry_count, entries_code, chain_code, linked_code}
use Rattle.template_compiler_codegen.proofs.Standing.{StandsAt, behind_one, instruction_at, below_at, behind_then, stands_first, stands_second}
use Rattle.template_compiler_codegen.proofs.Expressions.{Performs, Over, GivesAll, gives_to, behind_single, asks_at, done_at, done_free, performs_load, performs_loaded, gives_then, moved, longer, over_one, over_two, tests_at, behind_skipped, over_and, over_or, over_either, pushed, performs_built, built_list, built_tuple, builds_at, laid, built_map}
use Rattle.template_compiler_codegen.proofs.Plain.{Plain, plain_counts, EachPlain, plain_expression, plain_object, plain_positional}
use Rattle.template_compiler_codegen.proofs.Behind.{PerformsBehind, gives_then_behind}
use Rattle.template_compiler_codegen.proofs.Passing.{EachPassed, none_passed, alone_more, spread_more, EachNamed, none_named, named_more, merged_more, Takes, gives_passed, performs_alone, over_front}

looks_up : (name : List ℕ) → Performs (one (lookup name)) (λ go. step (asks (events.look_up name) (on_value go)))
looks_up name code place h =
    gives_to code (λ go. step (asks (events.look_up name) (on_value go))) place (suc place) (place + length (one (lookup name) place)) (behind_single place (lookup name))
    (λ k. (suc k, λ operands go below. asks_at code place (lookup name) [] h k operands operands (events.look_up name) go refl below))

over_unary : (op : UnaryOpKind) → Over (one (unary_code op)) (λ v go. step (asks (unary_ask op v) (on_value go)))
over_unary Not = over_one invert events.invert (λ next before place v operands. refl)
over_unary Neg = over_one negate events.negate (λ next before place v operands. refl)

performs_binary : (op : BinOpKind) (left right : Coded) (f g : (Val → Process) → Process) → Performs left f → Performs right g → Performs (binary_code op left right) (binary_walk op f g)
performs_binary ScAnd left right f g h i = gives_then left (skipped jump_if_false_or_pop right) f (λ v go. step (asks (truth_of v) (on_truth (g go) (go v)))) h (over_and right g i)
performs_binary ScOr left right f g h i = gives_then left _ f (λ v go. step (asks (truth_of v) (on_truth (go v) (g go)))) h (over_or right g i)
performs_binary op left right f g h i =
    gives_then left (then_code right (one (operate op))) f (λ v go. g (λ w. step (asks (events.operate op v w) (on_value go)))) h
    (over_two right g (operate op) (events.operate op) i (λ next before place v w operands. refl))

-- a slice, over its object
over_slice : (first second third : Coded) (f g h : (Val → Process) → Process) → Performs first f → Performs second g → Performs third h
    → Over (then_code first (then_code second (then_code third (one slice)))) (λ v go. f (λ a. g (λ b. h (λ c. step (asks (events.get_slice v a b c) (on_value go))))))
over_slice first second third f g h pf pg ph code place stands k =
    let last = then_code third (one slice) in
    let more = then_code second last in
    let one_at = place + length (first place) in
    let two_at = one_at + length (second one_at) in
    let three_at = two_at + length (third two_at) in
    let behind_first = stands_second code place first more stands in
    let behind_second = stands_second code one_at second last behind_first in
    let behind_third = stands_second code two_at third (one slice) behind_second in
    let c = ph code two_at (stands_first code two_at third (one slice) behind_second) (suc k) in
    let b = pg code one_at (stands_first code one_at second last behind_first) c.0 in
    let a = pf code place (stands_first code place first more stands) b.0 in (
      a.0,
      λ v operands go below.
          a.1 (single v ∷ operands) (λ x. g (λ y. h (λ z. step (asks (events.get_slice v x y z) (on_value go)))))
          (λ x. b.1 (single x ∷ single v ∷ operands) (λ y. h (λ z. step (asks (events.get_slice v x y z) (on_value go))))
          (λ y. c.1 (single y ∷ single x ∷ single v ∷ operands) (λ z. step (asks (events.get_slice v x y z) (on_value go)))
          (λ z. asks_at code three_at slice [] behind_third k (single z ∷ single y ∷ single x ∷ single v ∷ operands) operands (events.get_slice v x y z) go refl
          (λ w. moved code k (place + length (then_code first more place)) (suc three_at) (single w ∷ operands) (go w)
          (behind_then first more place ∙ behind_then second last one_at ∙ behind_then third (one slice) two_at ∙ sym (behind_single three_at slice)) (below w))))),
    )

-- the value below the top is dropped, one step
drops_at : (code : List Code) (place : ℕ) → StandsAt code place (dropped place) → (k : ℕ) (v w : Val) (operands : List Operand) (p : Process)
    → Below p (exec code k (suc (suc place)) (single w ∷ operands)) → Below (step p) (exec code (suc (suc k)) place (single w ∷ single v ∷ operands))
drops_at code place h k v w operands p below =
    below_at code place swap (instruction_at code place swap (discard_top ∷ []) h) (suc k) (single w ∷ single v ∷ operands) (step p)
    (below-step p _ (below_at code (suc place) discard_top (instruction_at code (suc place) discard_top [] (behind_one code place swap (discard_top ∷ []) h)) k (single v ∷ single w ∷ operands) p below))

-- links behind the first, and the drop behind them all
abbrev LinkedPerforms : Links → Type 0
LinkedPerforms links = (code : List Code) (place at_drop : ℕ) → StandsAt code place (linked_code links place) → place + length (linked_code links place) ≡ at_drop → StandsAt code at_drop (dropped at_drop) → (k : ℕ)
    → (j : ℕ) × ((v holds : Val) (operands : List Operand) (go : Val → Process) → ((u : Val) → Below (go u) (exec code k (suc (suc at_drop)) (single u ∷ operands)))
    → Below (linked_walk v holds links go) (exec code j place (single holds ∷ single v ∷ operands)))

abbrev compared_code : CompareOpKind → Coded → Coded
compared_code op piece = then_code piece (one (compare_and_preserve op))

-- one comparison, and the links behind it
compares_then : (op : CompareOpKind) (piece : Coded) (walk : (Val → Process) → Process) (links : Links) → Performs piece walk → LinkedPerforms links
    → (code : List Code) (place at_drop : ℕ) → StandsAt code place (then_code (compared_code op piece) (linked_code links) place) → place + length (then_code (compared_code op piece) (linked_code links) place) ≡ at_drop
    → StandsAt code at_drop (dropped at_drop) → (k : ℕ)
    → (j : ℕ) × ((v : Val) (operands : List Operand) (go : Val → Process) → ((u : Val) → Below (go u) (exec code k (suc (suc at_drop)) (single u ∷ operands)))
    → Below (walk (λ w. step (asks (events.compare op v w) (on_value (λ holds. linked_walk w holds links go))))) (exec code j place (single v ∷ operands)))
compares_then op piece walk links f rest code place at_drop h e drop k =
    let first = compared_code op piece in
    let mid = place + length (first place) in
    let compare_at = place + length (piece place) in
    let stands = stands_first code place first (linked_code links) h in
    let later = rest code mid at_drop (stands_second code place first (linked_code links) h) (sym (behind_then first (linked_code links) place) ∙ e) drop k in
    let earlier = f code place (stands_first code place piece (one (compare_and_preserve op)) stands) (suc later.0) in (
      earlier.0,
      λ v operands go below.
          earlier.1 (single v ∷ operands) (λ w. step (asks (events.compare op v w) (on_value (λ holds. linked_walk w holds links go))))
          (λ w. asks_at code compare_at (compare_and_preserve op) [] (stands_second code place piece (one (compare_and_preserve op)) stands) later.0 (single w ∷ single v ∷ operands) (single w ∷ operands) (events.compare op v w) (λ holds. linked_walk w holds links go) refl
          (λ holds. moved code later.0 mid (suc compare_at) (single holds ∷ single w ∷ operands) (linked_walk w holds links go)
          (behind_then piece (one (compare_and_preserve op)) place ∙ sym (behind_single compare_at (compare_and_preserve op))) (later.1 w holds operands go below))),
    )

data EachPerforms : List Core → List ((Val → Process) → Process) → Type 0 where
  none_left : EachPerforms [] []
  each_more : {piece : Core} {walk : (Val → Process) → Process} {pieces : List Core} {walks : List ((Val → Process) → Process)} → Performs (flat no_ways piece) walk → EachPerforms pieces walks → EachPerforms (piece ∷ pieces) (walk ∷ walks)

-- the code of keys and values leaves them in turn, as many as there are
abbrev GivesEntries : List Code → ((List (Val × Val) → Process) → Process) → ℕ → ℕ → ℕ → Type 0
GivesEntries code walk count from to = (k : ℕ) → (j : ℕ) × ((operands : List Operand) (go : List (Val × Val) → Process)
    → ((entries : List (Val × Val)) → length entries ≡ count → Below (go entries) (exec code k to (pushed (laid entries) operands))) → Below (walk go) (exec code j from operands))

abbrev EntriesPerform : Coded → ((List (Val × Val) → Process) → Process) → ℕ → Type 0
EntriesPerform piece walk count = (code : List Code) (place : ℕ) → StandsAt code place (piece place) → GivesEntries code walk count place (place + length (piece place))

-- where nothing stands, nothing is passed
unmoved : (code : List Code) (k place : ℕ) (operands : List Operand) (p : Process) → Below p (exec code k (place + length (nothing place)) (pushed [] operands)) → Below p (exec code k place operands)
unfolding pushed
unmoved code k place operands p below =
    let same : place + length (nothing place) ≡ place = omega arith in moved code k (place + length (nothing place)) place operands p same below

-- nothing at all
no_entries : EntriesPerform nothing (λ go. go []) 0
no_entries code place h k = (k, λ operands go below. unmoved code k place operands (go []) (below [] refl))

-- a key, its value, and the later entries
more_entries : (key value_piece more : Coded) (f g : (Val → Process) → Process) (h : (List (Val × Val) → Process) → Process) (count : ℕ) → Performs key f → Performs value_piece g → EntriesPerform more h count
    → EntriesPerform (then_code key (then_code value_piece more)) (λ go. f (λ k. g (λ v. h (λ entries. go ((k, v) ∷ entries))))) (suc count)
unfolding pushed
more_entries key value_piece more f g h count pf pg ph code place stands k =
    let later = then_code value_piece more in
    let value_at = place + length (key place) in
    let more_at = value_at + length (value_piece value_at) in
    let behind = stands_second code place key later stands in
    let c = ph code more_at (stands_second code value_at value_piece more behind) k in
    let b = pg code value_at (stands_first code value_at value_piece more behind) c.0 in
    let a = pf code place (stands_first code place key later stands) b.0 in (
      a.0,
      λ operands go below.
          a.1 operands (λ x. g (λ y. h (λ entries. go ((x, y) ∷ entries))))
          (λ x. b.1 (single x ∷ operands) (λ y. h (λ entries. go ((x, y) ∷ entries)))
          (λ y. c.1 (single y ∷ single x ∷ operands) (λ entries. go ((x, y) ∷ entries))
          (λ entries many. moved code k (place + length (then_code key later place)) (more_at + length (more more_at)) (pushed (laid entries) (single y ∷ single x ∷ operands)) (go ((x, y) ∷ entries))
          (behind_then key later place ∙ behind_then value_piece more value_at) (below ((x, y) ∷ entries) (ap suc many))))),
    )

performs_map : (piece : Coded) (walk : (List (Val × Val) → Process) → Process) (count : ℕ) → EntriesPerform piece walk count
    → Performs (then_code piece (one (build_map count))) (λ go. walk (λ entries. step (asks (events.build_map entries) (on_value go))))
performs_map piece walk count f code place h =
    let mid = place + length (piece place) in
    gives_to code (λ go. walk (λ entries. step (asks (events.build_map entries) (on_value go)))) place (mid + length (one (build_map count) mid)) (place + length (then_code piece (one (build_map count)) place))
    (sym (behind_then piece (one (build_map count)) place))
    (λ k.
    let earlier = f code place (stands_first code place piece (one (build_map count)) h) (suc k) in (
      earlier.0,
      λ operands go below. earlier.1 operands (λ entries. step (asks (events.build_map entries) (on_value go)))
          (λ entries many. builds_at code mid (build_map count) (stands_second code place piece (one (build_map count)) h) k (laid entries) operands (events.build_map entries) go (built_map count (exec code k) (counts_before code mid) mid entries operands many) below),
    ))

-- several expressions
abbrev pub AllPerform : Coded → ((List Val → Process) → Process) → ℕ → Type 0
AllPerform piece walk count = (code : List Code) (place : ℕ) → StandsAt code place (piece place) → GivesAll code walk count place (place + length (piece place))

none_at_all : AllPerform nothing (λ go. go []) 0
none_at_all code place h k = (k, λ operands go below. unmoved code k place operands (go []) (below [] refl))

one_more : (first more : Coded) (f : (Val → Process) → Process) (g : (List Val → Process) → Process) (count : ℕ) → Performs first f → AllPerform more g count
    → AllPerform (then_code first more) (λ go. f (λ v. g (λ vs. go (v ∷ vs)))) (suc count)
unfolding pushed
one_more first more f g count pf pg code place stands k =
    let more_at = place + length (first place) in
    let b = pg code more_at (stands_second code place first more stands) k in
    let a = pf code place (stands_first code place first more stands) b.0 in (
      a.0,
      λ operands go below.
          a.1 operands (λ v. g (λ vs. go (v ∷ vs)))
          (λ v. b.1 (single v ∷ operands) (λ vs. go (v ∷ vs))
          (λ vs many. moved code k (place + length (then_code first more place)) (more_at + length (more more_at)) (pushed vs (single v ∷ operands)) (go (v ∷ vs)) (behind_then first more place) (below (v ∷ vs) (ap suc many)))),
    )

-- arguments, with their walk
pub takes : (code : List Code) (before : Counts) (n : ℕ) (args : List (Passing Core Core)) (walks : List (Passing Giving Giving)) → EachPassed args walks → EachPlain args → has_spread walks ≡ has_spread args
    → (named : List (Passing (List ℕ × Core) Core)) (named_walks : List (Passing (List ℕ × Giving) Giving)) → EachNamed code before named named_walks → has_spread named_walks ≡ has_spread named
    → Takes code before (λ front. passed_walk front walks named_walks) (flat no_ways (passed_core n args named)) n (passed_count n args named)
takes code before n args walks each plain same named named_walks others alike = gives_passed code before n args walks each plain same named named_walks others alike

-- a block's text
abbrev block_code : List ℕ → Coded
block_code name = then_code (one (begin_capture true)) (then_code (one (call_block name)) (one end_capture))

performs_block : (name : List ℕ) → Performs (block_code name) (block_walk name)
performs_block name code place h =
    let second = behind_one code place (begin_capture true) (call_block name ∷ end_capture ∷ []) h in
    let third = behind_one code (suc place) (call_block name) (end_capture ∷ []) second in
    let whole : suc (suc (suc place)) ≡ place + length (block_code name place) = omega arith in
    gives_to code (block_walk name) place (suc (suc (suc place))) (place + length (block_code name place)) whole
    (λ k. (
      suc (suc (suc k)),
      λ operands go below.
          let ended : Process = step (asks events.end_capture (on_value go)) in
          done_free code place (begin_capture true) (call_block name ∷ end_capture ∷ []) h (suc (suc k)) operands operands (events.begin_capture true) (step (asks (events.call_block name) (on_done ended))) refl
          (done_at code (suc place) (call_block name) (end_capture ∷ []) second (suc k) operands operands (events.call_block name) ended refl
          (asks_at code (suc (suc place)) end_capture [] third k operands operands events.end_capture go refl below)),
    ))

-- a call
pub performs_called : (code : List Code) (before : Counts) (callee : Callee) (whole object : Core) (f g : Giving) → Performs (flat no_ways whole) f → Plain whole → Performs (flat no_ways object) g → Plain object
    → (args : List (Passing Core Core)) (walks : List (Passing Giving Giving)) → EachPassed args walks → EachPlain args → has_spread walks ≡ has_spread args
    → (named : List (Passing (List ℕ × Core) Core)) (named_walks : List (Passing (List ℕ × Giving) Giving)) → EachNamed code before named named_walks → has_spread named_walks ≡ has_spread named
    → PerformsBehind code before (flat no_ways (called_core callee whole object args named)) (called_walk callee f g (λ front. passed_walk front walks named_walks))
performs_called code before (by_name name) whole object f g pf whole_plain pg object_plain args walks each plain same named named_walks others alike =
    performs_alone code before (λ front. passed_walk front walks named_walks) (flat no_ways (passed_core 0 args named)) (passed_count 0 args named) (takes code before 0 args walks each plain same named named_walks others alike)
    (call_function name (passed_count 0 args named)) (events.call_function name) (λ next so_many place operands. refl)
performs_called code before (by_method name) whole object f g pf whole_plain pg object_plain args walks each plain same named named_walks others alike =
    gives_then_behind code before (flat no_ways object) (then_code (flat no_ways (passed_core 1 args named)) (one (call_method name (passed_count 1 args named)))) g
    (λ v go. passed_walk (v ∷ []) walks named_walks (λ vs. step (asks (events.call_method name vs) (on_value go)))) pg (plain_counts object_plain no_ways)
    (over_front code before (λ front. passed_walk front walks named_walks) (flat no_ways (passed_core 1 args named)) (passed_count 1 args named) (takes code before 1 args walks each plain same named named_walks others alike)
    (call_method name (passed_count 1 args named)) (events.call_method name) (λ next so_many place operands. refl))
performs_called code before (by_block name) whole object f g pf whole_plain pg object_plain args walks each plain same named named_walks others alike = λ place counted h. performs_block name code place h
performs_called code before by_value whole object f g pf whole_plain pg object_plain args walks each plain same named named_walks others alike =
    gives_then_behind code before (flat no_ways whole) (then_code (flat no_ways (passed_core 1 args named)) (one (call_object (passed_count 1 args named)))) f
    (λ v go. passed_walk (v ∷ []) walks named_walks (λ vs. step (asks (events.call_value vs) (on_value go)))) pf (plain_counts whole_plain no_ways)
    (over_front code before (λ front. passed_walk front walks named_walks) (flat no_ways (passed_core 1 args named)) (passed_count 1 args named) (takes code before 1 args walks each plain same named named_walks others alike)
    (call_object (passed_count 1 args named)) events.call_value (λ next so_many place operands. refl))

-- an instruction over a value and arguments
performs_applied : (code : List Code) (before : Counts) (whole : Core) (f : Giving) → Performs (flat no_ways whole) f → Plain whole
    → (args : List (Passing Core Core)) (walks : List (Passing Giving Giving)) → EachPassed args walks → EachPlain args → has_spread walks ≡ has_spread args
    → (named : List (Passing (List ℕ × Core) Core)) (named_walks : List (Passing (List ℕ × Giving) Giving)) → EachNamed code before named named_walks → has_spread named_walks ≡ has_spread named
    → (c : Code) (e : List Val → Ask)
    → ((next : ℕ → List Operand → Process) (so_many : Counts) (place : ℕ) (operands : List Operand) → act next so_many (Some c) place operands ≡ step (on_taken (handed (passed_count 1 args named) operands) (λ vs rest. asks (e vs) (on_value (λ w. next (suc place) (single w ∷ rest))))))
    → PerformsBehind code before (then_code (flat no_ways whole) (then_code (flat no_ways (passed_core 1 args named)) (one c))) (λ go. f (λ v. passed_walk (v ∷ []) walks named_walks (λ vs. step (asks (e vs) (on_value go)))))
performs_applied code before whole f pf whole_plain args walks each plain same named named_walks others alike c e is =
    gives_then_behind code before (flat no_ways whole) (then_code (flat no_ways (passed_core 1 args named)) (one c)) f
    (λ v go. passed_walk (v ∷ []) walks named_walks (λ vs. step (asks (e vs) (on_value go)))) pf (plain_counts whole_plain no_ways)
    (over_front code before (λ front. passed_walk front walks named_walks) (flat no_ways (passed_core 1 args named)) (passed_count 1 args named) (takes code before 1 args walks each plain same named named_walks others alike) c e is)

-- no links are left: what the last comparison gave stays
linked_over : LinkedPerforms no_links
linked_over code place at_drop h e drop k = (
  suc (suc k),
  λ v holds operands go below.
      let P : ℕ → Type 0 = λ n. Below (step (go holds)) (exec code (suc (suc k)) n (single holds ∷ single v ∷ operands)) in
      let same : at_drop ≡ place = omega arith in
      subst P same (drops_at code at_drop drop k v holds operands (go holds) (below holds)),
)

-- one more link
linked_on : (op : CompareOpKind) (piece : Coded) (e : Expression) (links : Links) → Performs piece (expression_walk e) → LinkedPerforms links → (code : List Code) (place at_drop : ℕ)
    → StandsAt code place (skipped jump_if_false_or_pop (then_code (compared_code op piece) (linked_code links)) place) → place + length (skipped jump_if_false_or_pop (then_code (compared_code op piece) (linked_code links)) place) ≡ at_drop
    → StandsAt code at_drop (dropped at_drop) → (k : ℕ)
    → (j : ℕ) × ((v holds : Val) (operands : List Operand) (go : Val → Process) → ((u : Val) → Below (go u) (exec code k (suc (suc at_drop)) (single u ∷ operands)))
    → Below (step (asks (truth_of holds) (on_truth (expression_walk e (λ w. step (asks (events.compare op v w) (on_value (λ later. linked_walk w later links go))))) (step (go holds))))) (exec code j place (single holds ∷ single v ∷ operands)))
linked_on op piece e links f rest code place at_drop h same drop k =
    let inner = then_code (compared_code op piece) (linked_code links) in
    let behind = suc place + length (inner (suc place)) in
    let there : behind ≡ at_drop = behind_skipped jump_if_false_or_pop inner place ∙ same in
    let later = compares_then op piece (expression_walk e) links f rest code (suc place) at_drop (behind_one code place (jump_if_false_or_pop behind) (inner (suc place)) h) there drop k in
    let m = later.0 + suc (suc k) in (
      suc m,
      λ v holds operands go below.
          tests_at code place (jump_if_false_or_pop behind) (inner (suc place)) h m (single holds ∷ single v ∷ operands) (truth_of holds)
          (expression_walk e (λ w. step (asks (events.compare op v w) (on_value (λ later. linked_walk w later links go))))) (step (go holds))
          (exec code m (suc place) (single v ∷ operands)) (exec code m behind (single holds ∷ single v ∷ operands)) refl
          (longer code later.0 m (suc place) (single v ∷ operands) _ (omega arith) (later.1 v operands go below))
          (longer code (suc (suc k)) m behind (single holds ∷ single v ∷ operands) (step (go holds)) (omega arith)
          (moved code (suc (suc k)) at_drop behind (single holds ∷ single v ∷ operands) (step (go holds)) (sym there) (drops_at code at_drop drop k v holds operands (go holds) (below holds)))),
    )

-- a chain's links, over the value at their left
over_chain : (op : CompareOpKind) (e : Expression) (links : Links) → Performs (expression_code e) (expression_walk e) → LinkedPerforms links
    → Over (then_code (compared_code op (expression_code e)) (then_code (linked_code links) dropped)) (λ v go. expression_walk e (λ w. step (asks (events.compare op v w) (on_value (λ holds. linked_walk w holds links go)))))
over_chain op e links f rest code place h k =
    let first = compared_code op (expression_code e) in
    let later = then_code (linked_code links) dropped in
    let mid = place + length (first place) in
    let behind = stands_second code place first later h in
    let at_drop = mid + length (linked_code links mid) in
    let drop = stands_second code mid (linked_code links) dropped behind in
    let compare_at = place + length (expression_code e place) in
    let stands = stands_first code place first later h in
    let b = rest code mid at_drop (stands_first code mid (linked_code links) dropped behind) refl drop k in
    let a = f code place (stands_first code place (expression_code e) (one (compare_and_preserve op)) stands) (suc b.0) in (
      a.0,
      λ v operands go below.
          let there : (u : Val) → Below (go u) (exec code k (suc (suc at_drop)) (single u ∷ operands)) =
          λ u. moved code k (place + length (then_code first later place)) (suc (suc at_drop)) (single u ∷ operands) (go u) (behind_then first later place ∙ behind_then (linked_code links) dropped mid ∙ two_behind at_drop) (below u) in
          a.1 (single v ∷ operands) (λ w. step (asks (events.compare op v w) (on_value (λ holds. linked_walk w holds links go))))
          (λ w. asks_at code compare_at (compare_and_preserve op) [] (stands_second code place (expression_code e) (one (compare_and_preserve op)) stands) b.0 (single w ∷ single v ∷ operands) (single w ∷ operands) (events.compare op v w) (λ holds. linked_walk w holds links go) refl
          (λ holds. moved code b.0 mid (suc compare_at) (single holds ∷ single w ∷ operands) (linked_walk w holds links go)
          (behind_then (expression_code e) (one (compare_and_preserve op)) place ∙ sym (behind_single compare_at (compare_and_preserve op))) (b.1 w holds operands go there))),
    )
  where
    two_behind : (n : ℕ) → n + length (dropped n) ≡ suc (suc n)
    two_behind n = omega arith

-- what has no walk
unwalked : (piece : Coded) → Performs piece (λ go. cut_short)
unwalked piece code place h k = (0, λ operands go below. below-cut_short _)

-- the walks of arguments have a spread where their codes have one
pub spreads_alike : (args : Arguments) → has_spread (positional_walks args) ≡ has_spread (positional_cores args)
spreads_alike no_arguments = refl
spreads_alike (arguments_more (positional e) args) = spreads_alike args
spreads_alike (arguments_more (positional_spread e) args) = refl
spreads_alike (arguments_more (keyword name e) args) = spreads_alike args
spreads_alike (arguments_more (keyword_spread e) args) = spreads_alike args

pub merges_alike : (args : Arguments) → has_spread (keyword_walks args) ≡ has_spread (keyword_cores args)
merges_alike no_arguments = refl
merges_alike (arguments_more (positional e) args) = merges_alike args
merges_alike (arguments_more (positional_spread e) args) = merges_alike args
merges_alike (arguments_more (keyword name e) args) = merges_alike args
merges_alike (arguments_more (keyword_spread e) args) = refl

mutual
  pub performs : (e : Expression) → Performs (expression_code e) (expression_walk e)
  performs (variable name) = looks_up name
  performs (constant v) = performs_load v
  performs (unary op e) =
      performs_loaded (constant_of (unary op e)) (then_code (expression_code e) (one (unary_code op))) (λ go. expression_walk e (λ v. step (asks (unary_ask op v) (on_value go))))
      (gives_then (expression_code e) (one (unary_code op)) (expression_walk e) (λ v go. step (asks (unary_ask op v) (on_value go))) (performs e) (over_unary op))
  performs (binary op left right) =
      performs_loaded (constant_of (binary op left right)) (binary_code op (expression_code left) (expression_code right)) (binary_walk op (expression_walk left) (expression_walk right))
      (performs_binary op (expression_code left) (expression_code right) (expression_walk left) (expression_walk right) (performs left) (performs right))
  performs (chain first links) =
      performs_loaded (constant_of (chain first links)) (then_code (expression_code first) (chain_code links)) (λ go. expression_walk first (λ v. chain_walk v links go))
      (gives_then (expression_code first) (chain_code links) (expression_walk first) (λ v go. chain_walk v links go) (performs first) (performs_chain links))
  performs (conditional test branch otherwise) =
      gives_then (expression_code test) (either_code (expression_code branch) (optional_code silent_undefined otherwise)) (expression_walk test)
      (λ v go. step (asks (truth_of v) (on_truth (expression_walk branch (λ w. step (go w))) (optional_walk silent_undefined otherwise go)))) (performs test)
      (over_either (expression_code branch) (optional_code silent_undefined otherwise) (expression_walk branch) (optional_walk silent_undefined otherwise) (performs branch) (performs_optional otherwise silent_undefined))
  performs (attribute e name) =
      gives_then (expression_code e) (one (get_attr name)) (expression_walk e) (λ v go. step (asks (events.get_attribute v name) (on_value go))) (performs e)
      (over_one (get_attr name) (λ v. events.get_attribute v name) (λ next before place v operands. refl))
  performs (item e key) =
      gives_then (expression_code e) (then_code (expression_code key) (one get_item)) (expression_walk e) (λ v go. expression_walk key (λ k. step (asks (events.get_item v k) (on_value go)))) (performs e)
      (over_two (expression_code key) (expression_walk key) get_item events.get_item (performs key) (λ next before place v w operands. refl))
  performs (tree.slice e start stop by) =
      gives_then (expression_code e) (then_code (optional_code none start) (then_code (optional_code none stop) (then_code (optional_code none by) (one slice)))) (expression_walk e)
      (λ v go. optional_walk none start (λ a. optional_walk none stop (λ b. optional_walk none by (λ c. step (asks (events.get_slice v a b c) (on_value go)))))) (performs e)
      (over_slice (optional_code none start) (optional_code none stop) (optional_code none by) (optional_walk none start) (optional_walk none stop) (optional_walk none by)
      (performs_optional start none) (performs_optional stop none) (performs_optional by none))
  performs (list_literal es) =
      performs_loaded (constant_of (list_literal es)) (then_code (expressions_code es) (one (build_list (Some (number_of es))))) (λ go. expressions_walk es (λ vs. step (asks (events.build_list vs) (on_value go))))
      (performs_built (expressions_code es) (expressions_walk es) (number_of es) (build_list (Some (number_of es))) events.build_list (performs_all es) (built_list (number_of es)))
  performs (tuple_literal es) =
      performs_loaded (constant_of (tuple_literal es)) (then_code (expressions_code es) (one (build_tuple (Some (number_of es))))) (λ go. expressions_walk es (λ vs. step (asks (events.build_tuple vs) (on_value go))))
      (performs_built (expressions_code es) (expressions_walk es) (number_of es) (build_tuple (Some (number_of es))) events.build_tuple (performs_all es) (built_tuple (number_of es)))
  performs (map_literal ks vs) =
      performs_loaded (constant_of (map_literal ks vs)) (then_code (entries_code ks (codes_of vs)) (one (build_map (entry_count ks (codes_of vs))))) (λ go. entries_walk ks (walks_of vs) (λ entries. step (asks (events.build_map entries) (on_value go))))
      (performs_map (entries_code ks (codes_of vs)) (entries_walk ks (walks_of vs)) (entry_count ks (codes_of vs)) (performs_entries ks (codes_of vs) (walks_of vs) (performs_each vs)))
  performs (call callee args) = λ code place h.
      let so_many = counts_before code place in
      performs_called code so_many (callee_of callee args) (expression_core callee) (object_core callee) (expression_walk callee) (object_walk callee) (performs callee) (plain_expression callee) (performs_object callee) (plain_object callee)
      (positional_cores args) (positional_walks args) (performs_positional args) (plain_positional args) (spreads_alike args) (keyword_cores args) (keyword_walks args) (performs_keyword code so_many args) (merges_alike args) place refl h
  performs (filtered name (given e) args) = λ code place h.
      let so_many = counts_before code place in
      performs_applied code so_many (expression_core e) (expression_walk e) (performs e) (plain_expression e)
      (positional_cores args) (positional_walks args) (performs_positional args) (plain_positional args) (spreads_alike args) (keyword_cores args) (keyword_walks args) (performs_keyword code so_many args) (merges_alike args)
      (apply_filter name (passed_count 1 (positional_cores args) (keyword_cores args)) no_number) (events.apply_filter name) (λ next before place operands. refl) place refl h
  performs (tested name e args) = λ code place h.
      let so_many = counts_before code place in
      performs_applied code so_many (expression_core e) (expression_walk e) (performs e) (plain_expression e)
      (positional_cores args) (positional_walks args) (performs_positional args) (plain_positional args) (spreads_alike args) (keyword_cores args) (keyword_walks args) (performs_keyword code so_many args) (merges_alike args)
      (perform_test name (passed_count 1 (positional_cores args) (keyword_cores args)) no_number) (events.perform_test name) (λ next before place operands. refl) place refl h
  performs _ = unwalked _

  pub performs_object : (e : Expression) → Performs (flat no_ways (object_core e)) (object_walk e)
  performs_object (attribute e name) = performs e
  performs_object _ = unwalked _

  pub performs_positional : (args : Arguments) → EachPassed (positional_cores args) (positional_walks args)
  performs_positional no_arguments = none_passed
  performs_positional (arguments_more (positional e) args) = alone_more (performs e) (performs_positional args)
  performs_positional (arguments_more (positional_spread e) args) = spread_more (performs e) (performs_positional args)
  performs_positional (arguments_more _ args) = performs_positional args

  pub performs_keyword : (code : List Code) (before : Counts) (args : Arguments) → EachNamed code before (keyword_cores args) (keyword_walks args)
  performs_keyword code before no_arguments = none_named
  performs_keyword code before (arguments_more (keyword name e) args) = named_more (performs e) (plain_expression e) (performs_keyword code before args)
  performs_keyword code before (arguments_more (keyword_spread e) args) = merged_more (performs e) (plain_expression e) (performs_keyword code before args)
  performs_keyword code before (arguments_more _ args) = performs_keyword code before args

  performs_optional : (o : Optional) (missing : Val) → Performs (optional_code missing o) (optional_walk missing o)
  performs_optional absent missing = performs_load missing
  performs_optional (given e) missing = performs e

  pub performs_all : (es : Expressions) → AllPerform (expressions_code es) (expressions_walk es) (number_of es)
  performs_all no_expressions = none_at_all
  performs_all (expressions_more e es) = one_more (expression_code e) (expressions_code es) (expression_walk e) (expressions_walk es) (number_of es) (performs e) (performs_all es)

  performs_each : (es : Expressions) → EachPerforms (codes_of es) (walks_of es)
  performs_each no_expressions = none_left
  performs_each (expressions_more e es) = each_more (performs e) (performs_each es)

  performs_entries : (ks : Expressions) (pieces : List Core) (walks : List ((Val → Process) → Process)) → EachPerforms pieces walks → EntriesPerform (entries_code ks pieces) (entries_walk ks walks) (entry_count ks pieces)
  performs_entries no_expressions pieces walks each = no_entries
  performs_entries (expressions_more key ks) _ _ none_left = no_entries
  performs_entries (expressions_more key ks) _ _ (each_more {piece = piece} {walk = walk} {pieces = pieces} {walks = walks} f each) =
      more_entries (expression_code key) (flat no_ways piece) (entries_code ks pieces) (expression_walk key) walk (entries_walk ks walks) (entry_count ks pieces) (performs key) f (performs_entries ks pieces walks each)

  performs_chain : (links : Links) → Over (chain_code links) (λ v go. chain_walk v links go)
  performs_chain no_links = λ code place h k. (0, λ v operands go below. below-cut_short _)
  performs_chain (links_more op e links) = over_chain op e links (performs e) (performs_linked links)

  performs_linked : (links : Links) → LinkedPerforms links
  performs_linked no_links = linked_over
  performs_linked (links_more op e links) = linked_on op (expression_code e) e links (performs e) (performs_linked links)
