-- What follows further takes a walk further, and so does a greater bound on rounds.
use Rattle.std.proofs.Common.{ℕ, ◌≤◌, zero, suc, Bool, true, false, List, [], ◌∷◌, ◌++◌, Option, None, Some, arith}
use Rattle.template_values_model.specs.Val as values
use Rattle.template_values_model.specs.Val.{Val}
use Rattle.template_compiler_tree.specs.declared.operators.BinOpKind.{BinOpKind}
use Rattle.template_compiler_tree.specs.declared.operators.BinOpKind.TheVariants.{ScAnd, ScOr}
use Rattle.template_compiler_tree.specs.Tree.{Expression, Optional, Expressions, Links, Arguments, variable, constant, slice, unary, binary, chain, conditional, attribute, item, call, filtered, tested, list_literal, tuple_literal, map_literal, absent, given, no_expressions, expressions_more, no_links, links_more, no_arguments, arguments_more, positional, keyword, positional_spread, keyword_spread, Statement, Statements, Assignments, raw, print, for_loop, if_condition, with_block, set, set_block, auto_escape, filter_block, include, macro, continue_loop, break_loop, do_call, no_statements, statements_more, no_assignments, assignments_more, Imports, block, import, from_import, extends, no_imports, imports_more}
use Rattle.template_compiler_tree.specs.Tree as tree
use Rattle.template_compiler_process.specs.Process as events
use Rattle.template_compiler_names.specs.Enclosed.{enclosed_names}
use Rattle.template_compiler_process.specs.Process.{Counts, no_counts, counted_together, Making, Ask, enclose, get_closure, build_macro, recurse, look_up, operate, compare, get_attribute, get_item, get_slice, build_list, build_tuple, build_map, build_kwargs, merge_kwargs, spread, apply_filter, perform_test, call_function, call_method, call_value, store, set_attribute, truth_of, unpack, spread, write_raw, write_value, call_block, super_block, load_blocks, export_locals, open_frame, close_frame, open_loop, next_item, did_not_iterate, close_loop, open_escape, close_escape, begin_capture, end_capture, Process, over, step, asks, cut_short, on_done, on_value, on_truth, on_item, on_all, Below}
use Rattle.template_compiler_process.proofs.Below.{below-cut_short, below-over, below-step, below-asks_done, below-asks_value, below-asks_truth, below-asks_item, below-asks_items, below-asks_all, below-asks_closure}
use Rattle.template_compiler_walk.specs.Constants.{constant_of}
use Rattle.template_compiler_walk.specs.Expressions.{folded, unary_ask, binary_walk, Giving, Passing, alone, spreads, listed, stretches_walk, mapped, entries_stretches, has_spread, merged_if, keywords_walk, run_if, passed_walk, Callee, by_name, by_method, by_block, by_value, callee_of, called_walk, expression_walk, object_walk, positional_walks, keyword_walks, optional_walk, expressions_walk, walks_of, entries_walk, chain_walk, linked_walk, filter_walk, filters_walk}
use Rattle.template_compiler_walk.specs.Statements.{Exits, Printed, prints_value, prints_block, prints_super, prints_rounds, printed_of, printed_walk, imported_names, stored_as, imports_stored, apart, outside, closing, capture_left, capturing, number_of, target_walk, targets_walk, assignments_walk, rounds, looping_behind, nameless_loop, kept_rounds, sifting, iterable_walk, loop_end, past, making_of, enclosed_walk, making_walk, declared_walk, caller_name, calling_walk, argument_walk, first_of, rest_of, arguments_walk, macro_walk, rounds_walk, statement_walk, statements_walk}
use Rattle.template_values_operators.specs.Kinds.{is_undefined}
use Rattle.template_compiler_names.specs.Names.{reversed}
use Rattle.template_compiler_walk.specs.Counting.{loop_counts, counts_by, counts_among, MacroBody, LoopRounds}
use Rattle.template_compiler_walk.specs.Laws.{WalksRise, MacrosRise, RoundsRise}

-- the second goes further, whatever value it is given
abbrev Follows : (Val → Process) → (Val → Process) → Type 0
Follows go on = (v : Val) → Below (go v) (on v)

-- a walk that goes further where what follows does
abbrev Lifts : ((Val → Process) → Process) → Type 0
Lifts walk = (go on : Val → Process) → Follows go on → Below (walk go) (walk on)

data Each : List ((Val → Process) → Process) → Type 0 where
  none_left : Each []
  each_more : {walk : (Val → Process) → Process} {walks : List ((Val → Process) → Process)} → Lifts walk → Each walks → Each (walk ∷ walks)

-- so does each argument, whatever gives its walk
data EachPassed {X : Type 0} (walk_of : X → Giving) : List (Passing X Giving) → Type 0 where
  none_passed : EachPassed walk_of []
  alone_more : {x : X} {args : List (Passing X Giving)} → Lifts (walk_of x) → EachPassed walk_of args → EachPassed walk_of (alone x ∷ args)
  spread_more : {walk : Giving} {args : List (Passing X Giving)} → Lifts walk → EachPassed walk_of args → EachPassed walk_of (spreads walk ∷ args)

abbrev itself : Giving → Giving
itself walk = walk

abbrev value_walk : List ℕ × Giving → Giving
value_walk named = named.1

step_value : (e : Ask) (go on : Val → Process) → Follows go on → Below (step (asks e (on_value go))) (step (asks e (on_value on)))
step_value e go on h = below-step (asks e (on_value go)) (asks e (on_value on)) (below-asks_value e go on h)

step_truth : (e : Ask) (p q r s : Process) → Below p q → Below r s → Below (step (asks e (on_truth p r))) (step (asks e (on_truth q s)))
step_truth e p q r s h i = below-step (asks e (on_truth p r)) (asks e (on_truth q s)) (below-asks_truth e p q r s h i)

step_done : (e : Ask) (p q : Process) → Below p q → Below (step (asks e (on_done p))) (step (asks e (on_done q)))
step_done e p q h = below-step (asks e (on_done p)) (asks e (on_done q)) (below-asks_done e p q h)

lift_folded : (o : Option Val) (go on : Val → Process) (p q : Process) → Follows go on → Below p q → Below (folded o go p) (folded o on q)
lift_folded None go on p q h i = i
lift_folded (Some v) go on p q h i = h v

lift_binary : (op : BinOpKind) (left right : (Val → Process) → Process) → Lifts left → Lifts right → Lifts (binary_walk op left right)
lift_binary ScAnd left right f g go on h =
    f _ _ (λ v. step_truth (truth_of v) (right go) (right on) (go v) (on v) (g go on h) (h v))
lift_binary ScOr left right f g go on h =
    f _ _ (λ v. step_truth (truth_of v) (go v) (on v) (right go) (right on) (h v) (g go on h))
lift_binary op left right f g go on h =
    f _ _ (λ v. g _ _ (λ w. step_value (operate op v w) go on h))

-- what follows goes further, whatever values it is given
abbrev FollowsAll : (List Val → Process) → (List Val → Process) → Type 0
FollowsAll go on = (vs : List Val) → Below (go vs) (on vs)

lift_listed : (vs : List Val) (go on : List Val → Process) → FollowsAll go on → Below (listed vs go) (listed vs on)
lift_listed [] go on h = h []
lift_listed (v ∷ vs) go on h = step_value (build_list (v ∷ vs)) _ _ (λ list. h (list ∷ []))

lift_stretches : (vs : List Val) (args : List (Passing Giving Giving)) → EachPassed itself args → (go on : List Val → List Val → Process)
    → ((lists rest : List Val) → Below (go lists rest) (on lists rest)) → Below (stretches_walk vs args go) (stretches_walk vs args on)
lift_stretches vs [] each go on h = h [] vs
lift_stretches vs (alone walk ∷ args) (alone_more f each) go on h = f _ _ (λ v. lift_stretches (vs ++ v ∷ []) args each _ _ h)
lift_stretches vs (spreads walk ∷ args) (spread_more f each) go on h =
    lift_listed vs _ _ (λ before. f _ _ (λ v. lift_stretches [] args each _ _ (λ later rest. h (before ++ v ∷ later) rest)))

lift_mapped : (es : List (Val × Val)) (go on : List Val → Process) → FollowsAll go on → Below (mapped es go) (mapped es on)
lift_mapped [] go on h = h []
lift_mapped (e ∷ es) go on h = step_value (build_kwargs (e ∷ es)) _ _ (λ map. h (map ∷ []))

lift_entries_stretches : (es : List (Val × Val)) (args : List (Passing (List ℕ × Giving) Giving)) → EachPassed value_walk args
    → (go on : List Val → List (Val × Val) → Process) → ((maps : List Val) (rest : List (Val × Val)) → Below (go maps rest) (on maps rest))
    → Below (entries_stretches es args go) (entries_stretches es args on)
lift_entries_stretches es [] each go on h = h [] es
lift_entries_stretches es (alone n ∷ args) (alone_more f each) go on h =
    f _ _ (λ v. lift_entries_stretches (es ++ (values.text n.0, v) ∷ []) args each _ _ h)
lift_entries_stretches es (spreads walk ∷ args) (spread_more f each) go on h =
    lift_mapped es _ _ (λ before. f _ _ (λ v. lift_entries_stretches [] args each _ _ (λ later rest. h (before ++ v ∷ later) rest)))

lift_merged : (several : Bool) (maps : List Val) (go on : List Val → Process) → FollowsAll go on → Below (merged_if several maps go) (merged_if several maps on)
lift_merged false maps go on h = h maps
lift_merged true maps go on h = step_value (merge_kwargs maps) _ _ (λ map. h (map ∷ []))

lift_keywords : (named : List (Passing (List ℕ × Giving) Giving)) → EachPassed value_walk named → (go on : List Val → Process) → FollowsAll go on
    → Below (keywords_walk named go) (keywords_walk named on)
lift_keywords named each go on h =
    lift_entries_stretches [] named each _ _ (λ maps rest. lift_mapped rest _ _ (λ more. lift_merged (has_spread named) (maps ++ more) go on h))

lift_run : (spread_one : Bool) (lists vs : List Val) (go on : List Val → Process) → FollowsAll go on → Below (run_if spread_one lists vs go) (run_if spread_one lists vs on)
lift_run false lists vs go on h = h vs
lift_run true lists vs go on h = lift_listed vs _ _ (λ more. below-step _ _ (below-asks_all (spread (lists ++ more)) go on h))

lift_passed : (front : List Val) (args : List (Passing Giving Giving)) → EachPassed itself args → (named : List (Passing (List ℕ × Giving) Giving))
    → EachPassed value_walk named → (go on : List Val → Process) → FollowsAll go on → Below (passed_walk front args named go) (passed_walk front args named on)
lift_passed front args each named others go on h =
    lift_stretches front args each _ _ (λ lists vs. lift_keywords named others _ _ (λ last. lift_run (has_spread args) lists (vs ++ last) go on h))

lift_called : (callee : Callee) (whole object : Giving) → Lifts whole → Lifts object → (args : List (Passing Giving Giving)) → EachPassed itself args
    → (named : List (Passing (List ℕ × Giving) Giving)) → EachPassed value_walk named
    → Lifts (called_walk callee whole object (λ front. passed_walk front args named))
lift_called (by_name name) whole object f g args each named others go on h =
    lift_passed [] args each named others _ _ (λ vs. step_value (call_function name vs) go on h)
lift_called (by_method name) whole object f g args each named others go on h =
    g _ _ (λ v. lift_passed (v ∷ []) args each named others _ _ (λ vs. step_value (call_method name vs) go on h))
lift_called (by_block name) whole object f g args each named others go on h =
    below-asks_done (begin_capture true) _ _ (step_done (call_block name) _ _ (step_value end_capture go on h))
lift_called by_value whole object f g args each named others go on h =
    f _ _ (λ v. lift_passed (v ∷ []) args each named others _ _ (λ vs. step_value (call_value vs) go on h))

mutual
  pub lift : (e : Expression) → Lifts (expression_walk e)
  lift (variable name) go on h = step_value (look_up name) go on h
  lift (constant v) go on h = h v
  lift (unary op e) go on h =
      lift_folded (constant_of (unary op e)) go on _ _ h (lift e _ _ (λ v. step_value (unary_ask op v) go on h))
  lift (binary op left right) go on h =
      lift_folded (constant_of (binary op left right)) go on _ _ h (lift_binary op (expression_walk left) (expression_walk right) (lift left) (lift right) go on h)
  lift (chain first links) go on h =
      lift_folded (constant_of (chain first links)) go on _ _ h (lift first _ _ (λ v. lift_chain links v go on h))
  lift (conditional test branch otherwise) go on h =
      lift test _ _ (λ v. step_truth (truth_of v) _ _ _ _ (lift branch _ _ (λ w. below-step (go w) (on w) (h w))) (lift_optional otherwise _ go on h))
  lift (attribute e name) go on h = lift e _ _ (λ v. step_value (get_attribute v name) go on h)
  lift (item e key) go on h = lift e _ _ (λ v. lift key _ _ (λ k. step_value (get_item v k) go on h))
  lift (slice e start stop by) go on h =
      lift e _ _ (λ v. lift_optional start _ _ _ (λ a. lift_optional stop _ _ _ (λ b. lift_optional by _ _ _ (λ c. step_value (get_slice v a b c) go on h))))
  lift (list_literal es) go on h = lift_folded (constant_of (list_literal es)) go on _ _ h (lift_all es _ _ (λ vs. step_value (build_list vs) go on h))
  lift (tuple_literal es) go on h = lift_folded (constant_of (tuple_literal es)) go on _ _ h (lift_all es _ _ (λ vs. step_value (build_tuple vs) go on h))
  lift (map_literal ks vs) go on h =
      lift_folded (constant_of (map_literal ks vs)) go on _ _ h (lift_entries ks (walks_of vs) (lift_each vs) _ _ (λ entries. step_value (build_map entries) go on h))
  lift (call callee args) go on h =
      lift_called (callee_of callee args) (expression_walk callee) (object_walk callee) (lift callee) (lift_object callee)
      (positional_walks args) (lift_positional args) (keyword_walks args) (lift_keyword args) go on h
  lift (filtered name (given e) args) go on h =
      lift e _ _ (λ v. lift_passed (v ∷ []) (positional_walks args) (lift_positional args) (keyword_walks args) (lift_keyword args) _ _ (λ vs. step_value (apply_filter name vs) go on h))
  lift (tested name e args) go on h =
      lift e _ _ (λ v. lift_passed (v ∷ []) (positional_walks args) (lift_positional args) (keyword_walks args) (lift_keyword args) _ _ (λ vs. step_value (perform_test name vs) go on h))
  lift _ go on h = below-cut_short _

  lift_object : (e : Expression) → Lifts (object_walk e)
  lift_object (attribute e name) go on h = lift e go on h
  lift_object _ go on h = below-cut_short _

  lift_positional : (args : Arguments) → EachPassed itself (positional_walks args)
  lift_positional no_arguments = none_passed
  lift_positional (arguments_more (positional e) args) = alone_more (lift e) (lift_positional args)
  lift_positional (arguments_more (positional_spread e) args) = spread_more (lift e) (lift_positional args)
  lift_positional (arguments_more _ args) = lift_positional args

  lift_keyword : (args : Arguments) → EachPassed value_walk (keyword_walks args)
  lift_keyword no_arguments = none_passed
  lift_keyword (arguments_more (keyword name e) args) = alone_more (lift e) (lift_keyword args)
  lift_keyword (arguments_more (keyword_spread e) args) = spread_more (lift e) (lift_keyword args)
  lift_keyword (arguments_more _ args) = lift_keyword args

  lift_optional : (o : Optional) (missing : Val) → Lifts (optional_walk missing o)
  lift_optional absent missing go on h = h missing
  lift_optional (given e) missing go on h = lift e go on h

  lift_all : (es : Expressions) (go on : List Val → Process) → ((vs : List Val) → Below (go vs) (on vs)) → Below (expressions_walk es go) (expressions_walk es on)
  lift_all no_expressions go on h = h []
  lift_all (expressions_more e es) go on h = lift e _ _ (λ v. lift_all es _ _ (λ vs. h (v ∷ vs)))

  lift_each : (es : Expressions) → Each (walks_of es)
  lift_each no_expressions = none_left
  lift_each (expressions_more e es) = each_more (lift e) (lift_each es)

  lift_entries : (ks : Expressions) (walks : List ((Val → Process) → Process)) → Each walks → (go on : List (Val × Val) → Process)
      → ((entries : List (Val × Val)) → Below (go entries) (on entries)) → Below (entries_walk ks walks go) (entries_walk ks walks on)
  lift_entries no_expressions walks each go on h = h []
  lift_entries (expressions_more k ks) [] each go on h = h []
  lift_entries (expressions_more k ks) (walk ∷ walks) (each_more f each) go on h =
      lift k _ _ (λ key. f _ _ (λ held. lift_entries ks walks each _ _ (λ entries. h ((key, held) ∷ entries))))

  lift_chain : (links : Links) (v : Val) → Lifts (chain_walk v links)
  lift_chain no_links v go on h = below-cut_short _
  lift_chain (links_more op e links) v go on h = lift e _ _ (λ w. step_value (compare op v w) _ _ (λ holds. lift_linked links w holds go on h))

  lift_linked : (links : Links) (v holds : Val) → Lifts (linked_walk v holds links)
  lift_linked no_links v holds go on h = below-step (go holds) (on holds) (h holds)
  lift_linked (links_more op e links) v holds go on h =
      step_truth (truth_of holds) _ _ _ _ (lift e _ _ (λ w. step_value (compare op v w) _ _ (λ later. lift_linked links w later go on h))) (below-step (go holds) (on holds) (h holds))

lift_filter : (name : List ℕ) (args : Arguments) (v : Val) → Lifts (filter_walk name args v)
lift_filter name args v go on h =
    lift_passed (v ∷ []) (positional_walks args) (lift_positional args) (keyword_walks args) (lift_keyword args) _ _ (λ vs. step_value (apply_filter name vs) go on h)

lift_filters : (e : Expression) (v : Val) → Lifts (filters_walk e v)
lift_filters (filtered name absent args) v go on h = lift_filter name args v go on h
lift_filters (filtered name (given e) args) v go on h = lift_filters e v _ _ (λ w. lift_filter name args w go on h)
lift_filters _ v go on h = below-cut_short _

mutual
  lift_target : (target : Expression) (v : Val) (p q : Process) → Below p q → Below (target_walk target v p) (target_walk target v q)
  lift_target (variable name) v p q h = step_done (store name v) p q h
  lift_target (attribute e name) v p q h = lift e _ _ (λ holder. step_done (set_attribute name v holder) p q h)
  lift_target (list_literal targets) v p q h =
      below-step _ _ (below-asks_items (unpack (number_of targets) v) (number_of targets) _ _ (λ vs. lift_targets targets vs p q h))
  lift_target _ v p q h = below-cut_short _

  lift_targets : (targets : Expressions) (vs : List Val) (p q : Process) → Below p q → Below (targets_walk targets vs p) (targets_walk targets vs q)
  lift_targets no_expressions vs p q h = h
  lift_targets (expressions_more target targets) [] p q h = h
  lift_targets (expressions_more target targets) (v ∷ vs) p q h = lift_target target v _ _ (lift_targets targets vs p q h)

lift_assignments : (assignments : Assignments) (p q : Process) → Below p q → Below (assignments_walk assignments p) (assignments_walk assignments q)
lift_assignments no_assignments p q h = h
lift_assignments (assignments_more target e more) p q h = lift e _ _ (λ v. lift_target target v _ _ (lift_assignments more p q h))

-- the ways out lead further
record Leads (x y : Exits) : Type 0 where
  on_break : Below x.on_break y.on_break
  on_continue : Below x.on_continue y.on_continue

leads_closing : (close : Ask) (x y : Exits) → Leads x y → Leads (closing close x) (closing close y)
leads_closing close x y leads = record { on_break = below-asks_done close _ _ leads.on_break; on_continue = below-asks_done close _ _ leads.on_continue }

left_further : (p q : Process) → Below p q → Below (capture_left p) (capture_left q)
left_further p q h = step_value end_capture (λ text. p) (λ text. q) (λ text. h)

leads_capturing : (x y : Exits) → Leads x y → Leads (capturing x) (capturing y)
leads_capturing x y leads = record { on_break = left_further _ _ leads.on_break; on_continue = left_further _ _ leads.on_continue }

-- a round that goes further where all that it leads to does
abbrev Turns : (Val → Exits → Process → Process) → (Val → Exits → Process → Process) → Type 0
Turns round turn = (v : Val) (x y : Exits) (p q : Process) → Leads x y → Below p q → Below (round v x p) (turn v y q)

lift_rounds : (n m : ℕ) → n ≤ m → (round turn : Val → Exits → Process → Process) → Turns round turn → (p q : Process) → Below p q → Below (rounds n round p) (rounds m turn q)
lift_rounds zero m less round turn turns p q h = below-cut_short _
lift_rounds (suc n) zero less round turn turns p q h = absurd (omega arith)
lift_rounds (suc n) (suc m) less round turn turns p q h =
    let again = below-step _ _ (lift_rounds n m (omega arith) round turn turns p q h) in
    below-step _ _ (below-asks_item next_item _ _ _ _ (λ v. turns v _ _ _ _ (record { on_break = below-step p q h; on_continue = again }) again) h)

lift_sifting : (target condition : Expression) (v : Val) (p q r s : Process) → Below p q → Below r s → Below (sifting target condition v p r) (sifting target condition v q s)
lift_sifting target condition v p q r s h i = lift_target target v _ _ (lift condition _ _ (λ c. step_truth (truth_of c) p q r s h i))

three_further : (p q : Process) → Below p q → Below (step (step (step p))) (step (step (step q)))
three_further p q h = below-step _ _ (below-step _ _ (below-step p q h))

lift_kept : (n m : ℕ) → n ≤ m → (target condition : Expression) (kept : List Val) (go on : List Val → Process) → ((vs : List Val) → Below (go vs) (on vs))
    → Below (kept_rounds n (sifting target condition) kept go) (kept_rounds m (sifting target condition) kept on)
lift_kept zero m less target condition kept go on h = below-cut_short _
lift_kept (suc n) zero less target condition kept go on h = absurd (omega arith)
lift_kept (suc n) (suc m) less target condition kept go on h =
    below-step _ _ (below-asks_item next_item _ _ _ _
    (λ v. lift_sifting target condition v _ _ _ _
    (three_further _ _ (below-step _ _ (lift_kept n m (omega arith) target condition (kept ++ v ∷ []) go on h)))
    (below-step _ _ (lift_kept n m (omega arith) target condition kept go on h)))
    (h kept))

lift_iterable : (n m : ℕ) → n ≤ m → (target e : Expression) (condition : Optional) (go on : Val → Process) → Follows go on
    → Below (iterable_walk n target e condition go) (iterable_walk m target e condition on)
lift_iterable n m less target e absent go on h = lift e go on h
lift_iterable n m less target e (given condition) go on h =
    below-step _ _ (below-asks_all (spread []) _ _ (λ none_yet.
    lift e _ _ (λ v. below-asks_done (open_loop nameless_loop v) _ _
    (lift_kept n m less target condition none_yet _ _
    (λ kept. below-asks_done close_loop _ _ (step_value (build_list kept) go on h))))))

lift_end : (otherwise : Statements) (p q r s : Process) → Below p q → Below r s → Below (loop_end otherwise p r) (loop_end otherwise q s)
lift_end no_statements p q r s h i = below-asks_done close_loop r s i
lift_end (statements_more _ _) p q r s h i =
    below-asks_value did_not_iterate _ _ (λ flag. below-asks_done close_loop _ _ (step_truth (truth_of flag) p q r s h i))

lift_past : (otherwise : Statements) (p q : Process) → Below p q → Below (past otherwise p) (past otherwise q)
lift_past no_statements p q h = h
lift_past (statements_more _ _) p q h = below-step p q h

lift_printed : (printed : Printed) (gives : Giving) → Lifts gives → (p q : Process) → Below p q → Below (printed_walk printed gives p) (printed_walk printed gives q)
lift_printed prints_value gives f p q h = f _ _ (λ v. step_done (write_value v) p q h)
lift_printed (prints_block name) gives f p q h = step_done (call_block name) p q h
lift_printed prints_super gives f p q h = step_done super_block p q h
lift_printed (prints_rounds e) gives f p q h = lift e _ _ (λ v. step_done (recurse v) p q h)

lift_imports : (names : Imports) (vs : List Val) (p q : Process) → Below p q → Below (imports_stored names vs p) (imports_stored names vs q)
lift_imports no_imports vs p q h = h
lift_imports (imports_more e alias more) [] p q h = h
lift_imports (imports_more e alias more) (v ∷ vs) p q h = lift_imports more vs _ _ (lift_target (stored_as e alias) v p q h)

lift_apart : (e : Expression) (p q : Process) → Below p q → Below (apart e p) (apart e q)
lift_apart e p q h = below-asks_done open_frame _ _ (lift e _ _ (λ v. step_done (events.include false v) p q h))

lift_enclosed : (names : List (List ℕ)) (p q : Process) → Below p q → Below (enclosed_walk names p) (enclosed_walk names q)
lift_enclosed [] p q h = h
lift_enclosed (name ∷ names) p q h = step_done (enclose name) _ _ (lift_enclosed names p q h)

lift_making : (making : Making) (names : List (List ℕ)) → Lifts (making_walk making names)
lift_making making names go on h =
    below-step _ _ (lift_enclosed names _ _ (below-step _ _ (below-asks_closure get_closure _ _ (λ c. below-asks_value (build_macro making c) go on h))))

-- so do the arguments and the keyword that is behind them
and_last : (args : List (Passing (List ℕ × Giving) Giving)) (name : List ℕ) (walk : Giving) → EachPassed value_walk args → Lifts walk
    → EachPassed value_walk (args ++ alone (name, walk) ∷ [])
and_last [] name walk none_passed f = alone_more f none_passed
and_last (alone x ∷ args) name walk (alone_more g each) f = alone_more g (and_last args name walk each f)
and_last (spreads x ∷ args) name walk (spread_more g each) f = spread_more g (and_last args name walk each f)

lift_calling : (callee : Expression) (passed : Arguments) (caller : Giving) → Lifts caller → Lifts (calling_walk callee passed caller)
lift_calling callee passed caller f go on h =
    lift_called (callee_of callee passed) (expression_walk callee) (object_walk callee) (lift callee) (lift_object callee)
    (positional_walks passed) (lift_positional passed) (keyword_walks passed ++ alone (caller_name, caller) ∷ [])
    (and_last (keyword_walks passed) caller_name caller (lift_keyword passed) f) go on h

mutual
  lift_statement : (n m : ℕ) → n ≤ m → (first : Counts) (s : Statement) (x y : Exits) (p q : Process) → Leads x y → Below p q → Below (statement_walk n first s x p) (statement_walk m first s y q)
  lift_statement n m less first (raw text) x y p q leads h = step_done (write_raw text) p q h
  lift_statement n m less first (print e) x y p q leads h = lift_printed (printed_of e) (expression_walk e) (lift e) p q h
  lift_statement n m less first (for_loop target e condition recursive body otherwise) x y p q leads h =
      let own = counted_together first (loop_counts recursive) in
      lift_iterable n m less target e condition _ _ (λ v. below-asks_done (open_loop (looping_behind recursive first) v) _ _
      (lift_rounds n m less _ _ (λ item k l r s inner i. lift_target target item _ _ (lift_statements n m less own body k l r s inner i)) _ _
      (lift_end otherwise _ _ _ _ (lift_statements n m less (counted_together own (counts_among body)) otherwise x y p q leads h) h)))
  lift_statement n m less first (if_condition e body otherwise) x y p q leads h =
      lift e _ _ (λ v. step_truth (truth_of v) _ _ _ _ (lift_statements n m less first body x y _ _ leads (lift_past otherwise p q h))
      (lift_statements n m less (counted_together first (counts_among body)) otherwise x y p q leads h))
  lift_statement n m less first (with_block assignments body) x y p q leads h =
      below-asks_done open_frame _ _ (lift_assignments assignments _ _
      (lift_statements n m less first body _ _ _ _ (leads_closing close_frame x y leads) (below-asks_done close_frame p q h)))
  lift_statement n m less first (set target e) x y p q leads h = lift e _ _ (λ v. lift_target target v p q h)
  lift_statement n m less first (set_block target absent body) x y p q leads h =
      below-asks_done (begin_capture true) _ _
      (lift_statements n m less first body _ _ _ _ (leads_capturing x y leads) (step_value end_capture _ _ (λ text. lift_target target text p q h)))
  lift_statement n m less first (set_block target (given filters) body) x y p q leads h =
      below-asks_done (begin_capture true) _ _
      (lift_statements n m less first body _ _ _ _ (leads_capturing x y leads)
      (step_value end_capture _ _ (λ text. lift_filters filters text _ _ (λ v. lift_target target v p q h))))
  lift_statement n m less first (auto_escape e body) x y p q leads h =
      lift e _ _ (λ v. below-asks_done (open_escape v) _ _
      (lift_statements n m less first body _ _ _ _ (leads_closing close_escape x y leads) (below-asks_done close_escape p q h)))
  lift_statement n m less first (filter_block filters body) x y p q leads h =
      below-asks_done (begin_capture true) _ _
      (lift_statements n m less first body _ _ _ _ (leads_capturing x y leads)
      (step_value end_capture _ _ (λ text. lift_filters filters text _ _ (λ v. step_done (write_value v) p q h))))
  lift_statement n m less first (block name required body) x y p q leads h = step_done (call_block name) p q h
  lift_statement n m less first (import e target) x y p q leads h =
      below-asks_done (begin_capture true) _ _ (lift_apart e _ _
      (step_value end_capture _ _ (λ text. below-asks_value (export_locals text) _ _ (λ m. below-asks_done close_frame _ _ (lift_target target m p q h)))))
  lift_statement n m less first (from_import e names) x y p q leads h =
      below-asks_done (begin_capture false) _ _ (lift_apart e _ _
      (lift_all (imported_names names) _ _ (λ vs. below-asks_done close_frame _ _
      (lift_imports names vs _ _ (step_value end_capture _ _ (λ dropped. h))))))
  lift_statement n m less first (extends e) x y p q leads h = lift e _ _ (λ v. below-asks_done (load_blocks v) p q h)
  lift_statement n m less first (include e ignore_missing) x y p q leads h = lift e _ _ (λ v. step_done (events.include ignore_missing v) p q h)
  lift_statement n m less first (macro name arguments defaults body) x y p q leads h =
      lift_making (making_of first name arguments defaults body) (enclosed_names arguments defaults body) _ _ (λ v. step_done (store name v) p q h)
  lift_statement n m less first (tree.call_block callee passed arguments defaults body) x y p q leads h =
      lift_calling callee passed (declared_walk first caller_name arguments defaults body)
      (lift_making (making_of first caller_name arguments defaults body) (enclosed_names arguments defaults body)) _ _ (λ v. step_done (write_value v) p q h)
  lift_statement n m less first (do_call callee args) x y p q leads h = lift (call callee args) _ _ (λ v. h)
  lift_statement n m less first continue_loop x y p q leads h = leads.on_continue
  lift_statement n m less first break_loop x y p q leads h = leads.on_break
  lift_statement n m less first _ x y p q leads h = below-cut_short _

  lift_statements : (n m : ℕ) → n ≤ m → (first : Counts) (ss : Statements) (x y : Exits) (p q : Process) → Leads x y → Below p q → Below (statements_walk n first ss x p) (statements_walk m first ss y q)
  lift_statements n m less first no_statements x y p q leads h = h
  lift_statements n m less first (statements_more s ss) x y p q leads h = lift_statement n m less first s x y _ _ leads (lift_statements n m less (counted_together first (counts_by s)) ss x y p q leads h)

pub walks_rise : WalksRise
walks_rise tree n m less =
    lift_statements n m less no_counts tree outside outside (over []) (over []) (record { on_break = below-cut_short _; on_continue = below-cut_short _ }) (below-over [])

-- so do the body of a macro, over its arguments, and the rounds of a loop
abbrev closed_ways : Leads outside outside
closed_ways = record { on_break = below-cut_short _; on_continue = below-cut_short _ }

lift_argument : (target : Expression) (o : Optional) (v : Val) (p q : Process) → Below p q → Below (argument_walk target o v p) (argument_walk target o v q)
lift_argument target absent v p q h = lift_target target v p q h
lift_argument target (given default) v p q h =
    below-step _ _ (step_truth (truth_of (values.truth (is_undefined v))) _ _ _ _ (lift default _ _ (λ w. lift_target target w p q h)) (lift_target target v p q h))

lift_arguments : (targets defaults : Expressions) (vs : List Val) (p q : Process) → Below p q → Below (arguments_walk targets defaults vs p) (arguments_walk targets defaults vs q)
lift_arguments no_expressions defaults vs p q h = h
lift_arguments (expressions_more target targets) defaults [] p q h = h
lift_arguments (expressions_more target targets) defaults (v ∷ vs) p q h =
    lift_argument target (first_of defaults) v _ _ (lift_arguments targets (rest_of defaults) vs p q h)

pub macros_rise : MacrosRise
macros_rise b vs n m less =
    lift_arguments (reversed b.arguments no_expressions) (reversed b.defaults no_expressions) vs _ _
    (lift_statements n m less b.first b.body outside outside (over []) (over []) closed_ways (below-over []))

pub rounds_rise : RoundsRise
rounds_rise r n m less =
    lift_rounds n m less _ _ (λ item k l x y inner i. lift_target r.target item _ _ (lift_statements n m less r.first r.body k l x y inner i)) _ _
    (lift_end r.otherwise cut_short cut_short cut_short cut_short (below-cut_short _) (below-cut_short _))
