-- An expression does the same under every bound, and comes to its value or to a fault.
use Rattle.std.proofs.Common.{◌≡◌, ℕ, zero, suc, ◌+◌, ◌≤◌, inl, inr, Bool, true, false, ◌||◌, List, [], ◌∷◌, ◌++◌, Option, None, Some, is_some, Result, Ok, Err, refl, sym, ap, subst, ◌∙◌, arith}
use Rattle.std.specs.Prelude.{if◌then◌else◌, ◌==◌, slice_get}
use Rattle.template_values_errors.specs.declared.ErrorKind.{ErrorKind}
use Rattle.template_values_errors.specs.declared.ErrorKind.TheVariants.{InvalidOperation, UnknownBlock}
use Rattle.template_values_model.specs.Val.{Val, text}
use Rattle.template_values_forms.specs.Truth as truths
use Rattle.template_values_operators.specs.Kinds.{list_made}
use Rattle.template_values_operators.specs.Slices.{slice_of}
use Rattle.template_compiler_tree.specs.declared.operators.UnaryOpKind.{UnaryOpKind}
use Rattle.template_compiler_tree.specs.declared.operators.UnaryOpKind.TheVariants.{Not, Neg}
use Rattle.template_compiler_tree.specs.declared.operators.BinOpKind.{BinOpKind}
use Rattle.template_compiler_tree.specs.declared.operators.BinOpKind.TheVariants.{ScAnd, ScOr}
use Rattle.template_compiler_tree.specs.Tree.{Expression, Optional, Expressions, Links, Arguments, variable, constant, slice, unary, binary, chain, conditional, attribute, item, call, filtered, tested, list_literal, tuple_literal, map_literal, absent, given, no_expressions, expressions_more, no_links, links_more, no_arguments, arguments_more, positional, keyword, positional_spread, keyword_spread}
use Rattle.template_compiler_process.specs.Process.{Ask, Answer, Told, tells, fails, breaks_off, leaves, done, value, truth, items, begin_capture, end_capture, call_block, look_up, operate, compare, get_attribute, get_item, get_slice, build_list, build_tuple, build_map, build_kwargs, merge_kwargs, spread, call_function, call_method, call_value, apply_filter, perform_test, truth_of, Process, over, step, asks, on_done, on_value, on_truth, on_all}
use Rattle.template_compiler_process.specs.Trace.{Reply, Run, paid, run, behind, go_on, replied}
use Rattle.template_compiler_walk.specs.Constants.{constant_of}
use Rattle.template_compiler_walk.specs.Containers.{tuple_made, map_made, kwargs_made}
use Rattle.template_compiler_walk.specs.Operators.{operated, compared, inverted, negated}
use Rattle.template_compiler_walk.specs.Statements.{is_super_name, standalone_walk}
use Rattle.template_compiler_walk.specs.Expressions.{folded, unary_ask, binary_walk, Giving, Passing, alone, spreads, listed, stretches_walk, mapped, entries_stretches, has_spread, merged_if, keywords_walk, run_if, passed_walk, Callee, by_name, by_method, by_block, by_value, callee_of, called_walk, expression_walk, object_walk, positional_walks, keyword_walks, optional_walk, expressions_walk, walks_of, entries_walk, chain_walk, linked_walk}
use Rattle.template_machine_meaning.specs.World.{Loop, Macro, Capture, World, looked_up, value_named, depth_of}
use Rattle.template_machine_meaning.specs.Bodies.{Bodies, bodies_at}
use Rattle.template_machine_meaning.specs.Captures.{capture_begun, captured, is_dropping}
use Rattle.template_machine_meaning.specs.Records.{loop_numbered, all_loops, known_of}
use Rattle.template_machine_meaning.specs.Undefined.{forbids_truth, forbids_operator, forbids_link, forbids_slicing}
use Rattle.template_machine_meaning.specs.Replies.{told, changed, refused, guarded, kinded, replied_with}
use Rattle.template_machine_meaning.specs.Functions.{filter_named, test_named, Called, invokes, name_called, first_method, first_called}
use Rattle.template_machine_meaning.specs.Calls.{call_plan}
use Rattle.template_machine_meaning.specs.Spreads.{items_of_each, merged_keywords}
use Rattle.template_machine_meaning.specs.Keys.{Home, Key, Around}
use Rattle.template_machine_meaning.specs.Plans.{Within, Plan, replies, enters, room_for, Runners, settled}
use Rattle.template_machine_meaning.specs.Blocks.{block_within, bodies_plan, text_within, super_in, super_from, super_called}
use Rattle.template_machine_meaning.specs.Macros.{macro_plan}
use Rattle.template_machine_meaning.specs.Rounds.{again_plan}
use Rattle.template_machine_meaning.specs.Surroundings.{Programs, attribute_given, item_given, capture_ended, plan, respond, runners, answer}
use Rattle.template_machine_meaning.specs.Meaning.{Setting, evaluation}
use Rattle.template_machine_meaning.specs.Meaning as meanings
use Rattle.template_machine_meaning.specs.Laws.{GivesOne, IsAlone, EveryEvaluationGives, EvaluationsNeedNoBound}
use Rattle.template_machine_meaning.proofs.Settling.{Settles}
use Rattle.template_machine_meaning.proofs.Keeping.{keeps_itself}
use Rattle.template_machine_meaning.proofs.Calling.{Stands, Tells, PlanComes, Entries, call_comes}
use Rattle.template_machine_meaning.proofs.Blocks.{Kept}
use Rattle.template_machine_meaning.proofs.Expressions.{itself, value_walk, settles_expression}

-- whoever runs the templates that stand
module _ (around : Around) (r q : Runners) where
  abbrev Same : Process → Type 0
  Same p = (w : World) → IsAlone w → run (respond around r) p w ≡ run (respond around q) p w

  -- a walk that is the same where what follows is
  abbrev Stays : ((Val → Process) → Process) → Type 0
  Stays walk = (go : Val → Process) → ((v : Val) → Same (go v)) → Same (walk go)

  data Each : List ((Val → Process) → Process) → Type 0 where
    none_left : Each []
    each_more : {walk : (Val → Process) → Process} {walks : List ((Val → Process) → Process)} → Stays walk → Each walks → Each (walk ∷ walks)

  data EachPassed {X : Type 0} (walk_in : X → Giving) : List (Passing X Giving) → Type 0 where
    none_passed : EachPassed walk_in []
    alone_more : {x : X} {args : List (Passing X Giving)} → Stays (walk_in x) → EachPassed walk_in args → EachPassed walk_in (alone x ∷ args)
    spread_more : {walk : Giving} {args : List (Passing X Giving)} → Stays walk → EachPassed walk_in args → EachPassed walk_in (spreads walk ∷ args)

  stepped : (p : Process) → Same p → Same (step p)
  stepped p same w none = ap (behind (paid [] ∷ [])) (same w none)

  -- an answer leaves nothing that runs
  abbrev LeavesNone : World → Told → Type 0
  LeavesNone after (tells a) = IsAlone after
  LeavesNone after _ = Unit {0}

  -- an event that starts no run, where nothing that runs can be called
  record IsQuiet (w : World) (e : Ask) : Type 0 where
    alike : respond around r w e ≡ respond around q w e
    after : LeavesNone (respond around q w e).after (respond around q w e).told

  abbrev Quiet : Ask → Type 0
  Quiet e = (w : World) → IsAlone w → IsQuiet w e

  gone_on : (f g : Answer → World → Run World) (after : World) (t : Told) → LeavesNone after t → ((a : Answer) → IsAlone after → f a after ≡ g a after)
      → go_on f after t ≡ go_on g after t
  gone_on f g after (tells a) none h = h a none
  gone_on f g after (fails kinds) none h = refl
  gone_on f g after breaks_off none h = refl
  gone_on f g after leaves none h = refl

  asked : (e : Ask) (k : Answer → Process) → Quiet e → ((a : Answer) → Same (k a)) → Same (asks e k)
  asked e k quiet same w none =
      let at = quiet w none in
      let reply : Reply World = respond around q w e in
      ap (replied (λ a t. run (respond around r) (k a) t)) at.alike
      ∙ ap (behind reply.items) (gone_on (λ a t. run (respond around r) (k a) t) (λ a t. run (respond around q) (k a) t) reply.after reply.told at.after
      (λ a still. same a reply.after still))

  -- what is given or refused
  left_with : {X : Type 0} (w : World) → IsAlone w → (answer : X → Answer) (result : Result X ErrorKind) → LeavesNone (replied_with w answer result).after (replied_with w answer result).told
  left_with w none answer (Ok x) = none
  left_with w none answer (Err kind) = tt

  gives_quiet : (e : Ask) {X : Type 0} (answer : X → Answer) (result : World → Result X ErrorKind) → ((w : World) (runners : Runners) → respond around runners w e ≡ replied_with w answer (result w)) → Quiet e
  gives_quiet e answer result is w none = record {
    alike = is w r ∙ sym (is w q);
    after = subst (λ (x : Reply World). LeavesNone x.after x.told) (sym (is w q)) (left_with w none answer (result w));
  }

  -- a plan that enters nothing
  planned_quiet : (w : World) (e : Ask) (reply : Reply World) → plan around w e ≡ replies reply → LeavesNone reply.after reply.told → IsQuiet w e
  planned_quiet w e reply planned left = record {
    alike = ap (settled r w) planned ∙ sym (ap (settled q w) planned);
    after = subst (λ (x : Reply World). LeavesNone x.after x.told) (sym (ap (settled q w) planned)) left;
  }

  -- by what is planned: nothing is entered
  abbrev PlansNone : Plan → Type 0
  PlansNone p = PlanComes IsAlone (λ (x : Within). ⊥) p

  come_leaves : (after : World) (t : Told) → Tells IsAlone after t → LeavesNone after t
  come_leaves after (tells (value v)) none = none
  come_leaves after (fails kinds) none = tt
  come_leaves after _ none = absurd none

  plan_quiet : (w : World) (e : Ask) (p : Plan) → plan around w e ≡ p → PlansNone p → IsQuiet w e
  plan_quiet w e (replies reply) planned comes = planned_quiet w e reply planned (come_leaves reply.after reply.told comes.told)
  plan_quiet w e (enters x) planned none = absurd none

  refused_none : (w : World) (kind : ErrorKind) → PlansNone (replies (refused w kind))
  refused_none w kind = record { items = refl; told = tt }

  -- calls
  none_stands : Stands IsAlone
  none_stands = record {
    temps = λ w temps none. record { blocks = none.blocks; macros = none.macros; loops = none.loops };
    makes = λ w entries none. record { blocks = none.blocks; macros = none.macros; loops = none.loops };
    compares = λ w pairs none. record { blocks = none.blocks; macros = none.macros; loops = none.loops };
  }

  -- there is no macro, no loop and no block
  no_macro : (w : World) → w.macros ≡ [] → (number : ℕ) (b : Bool) → (if b then slice_get w.macros number else None) ≡ None
  no_macro w none number true = ap (λ (ms : List Macro). slice_get ms number) none
  no_macro w none number false = refl

  no_loop : (w : World) → ((number : ℕ) → loop_numbered number (all_loops w) ≡ None) → (number : ℕ) (b : Bool) → (if b then loop_numbered number (all_loops w) else None) ≡ None
  no_loop w none number true = none number
  no_loop w none number false = refl

  again_none : (w : World) (vs : List Val) → PlansNone (again_plan around w vs None)
  again_none w [] = refused_none w InvalidOperation
  again_none w (v ∷ []) = refused_none w InvalidOperation
  again_none w (v ∷ u ∷ vs) = refused_none w InvalidOperation

  abbrev text_entering : World → ℕ → List ℕ → Home → Plan
  text_entering w pending name home = room_for around.limit (1 + pending) w (text_within w pending name home)

  entries_none : Entries IsAlone (λ (x : Within). ⊥) around
  entries_none = record {
    turns = λ x t none. none;
    macros = λ pending w none vs id number.
        subst (λ (o : Option Macro). PlansNone (macro_plan around.limit pending w vs o)) (sym (no_macro w none.macros number (id == w.id))) (refused_none w InvalidOperation);
    rounds = λ w none vs id number.
        subst (λ (o : Option Loop). PlansNone (again_plan around w vs o)) (sym (no_loop w none.loops number (id == w.id))) (again_none w vs);
    texts = λ pending w none name.
        subst (λ (blocks : List (List ℕ × Bodies)). PlansNone (bodies_plan around w name (text_entering w pending name) (bodies_at name blocks))) (sym none.blocks) (refused_none w UnknownBlock);
  }

  call_none : (w : World) → IsAlone w → (c : Called) → PlansNone (call_plan around w c)
  call_none w none c = call_comes IsAlone none_stands (λ (x : Within). ⊥) around entries_none w none c

  call_quiet : (e : Ask) (c : World → Called) → ((w : World) → plan around w e ≡ call_plan around w (c w)) → Quiet e
  call_quiet e c is w none = plan_quiet w e (call_plan around w (c w)) (is w) (call_none w none (c w))

  -- there is nothing behind a block
  super_refused : (w : World) → w.blocks ≡ [] → (o : Option (List ℕ)) → super_from around w true o ≡ replies (refused w InvalidOperation)
  super_refused w none None = refl
  super_refused w none (Some name) = ap (λ (blocks : List (List ℕ × Bodies)). super_in around w true name (bodies_at name blocks)) none

  super_none : (w : World) → w.blocks ≡ [] → (vs : List Val) → super_called around w vs ≡ replies (refused w InvalidOperation)
  super_none w none [] = super_refused w none w.block
  super_none w none (v ∷ vs) = refl

  abbrev named_plan : World → List ℕ → List Val → Bool → Plan
  named_plan w name vs b = if b then super_called around w vs else call_plan around w (name_called w.globals (looked_up name w) vs)

  named_quiet : (name : List ℕ) (vs : List Val) (b : Bool) → is_super_name name ≡ b → Quiet (call_function name vs)
  named_quiet name vs true is w none =
      planned_quiet w (call_function name vs) (refused w InvalidOperation) (ap (named_plan w name vs) is ∙ super_none w none.blocks vs) tt
  named_quiet name vs false is w none =
      plan_quiet w (call_function name vs) (call_plan around w (name_called w.globals (looked_up name w) vs)) (ap (named_plan w name vs) is)
      (call_none w none (name_called w.globals (looked_up name w) vs))

  -- nor is there a block
  abbrev block_or : World → List ℕ → Bool → List (List ℕ × Bodies) → Plan
  block_or w name b blocks =
      if b then replies (told w (tells done))
      else bodies_plan around w name (λ home. room_for around.limit 1 w (block_within w name home)) (bodies_at name blocks)

  block_by : (w : World) (name : List ℕ) (b : Bool) → IsAlone w → plan around w (call_block name) ≡ block_or w name b [] → IsQuiet w (call_block name)
  block_by w name true none is = planned_quiet w (call_block name) (told w (tells done)) is none
  block_by w name false none is = planned_quiet w (call_block name) (refused w UnknownBlock) is tt

  block_quiet : (name : List ℕ) → Quiet (call_block name)
  block_quiet name w none =
      block_by w name (is_some w.parent || is_dropping w.captures) none (ap (block_or w name (is_some w.parent || is_dropping w.captures)) none.blocks)

  abbrev ended_among : World → List Capture → Reply World
  ended_among w captures = elim captures [ [] ↦ told w breaks_off | c ∷ cs ↦ changed (record w { captures = cs }) (value (captured w.escape c)) ]

  with_captures : (w : World) (captures : List Capture) → IsAlone w → IsAlone (record w { captures = captures })
  with_captures w captures none = record { blocks = none.blocks; macros = none.macros; loops = none.loops }

  end_leaves : (w : World) → IsAlone w → (captures : List Capture) → LeavesNone (ended_among w captures).after (ended_among w captures).told
  end_leaves w none [] = tt
  end_leaves w none (c ∷ cs) = with_captures w cs none

  at_done : (go : Process) → Same go → (a : Answer) → Same (on_done go a)
  at_done go same done = same
  at_done go same _ = λ w none. refl

  at_value : (go : Val → Process) → ((v : Val) → Same (go v)) → (a : Answer) → Same (on_value go a)
  at_value go same (value v) = same v
  at_value go same _ = λ w none. refl

  at_truth : (go other : Process) → Same go → Same other → (a : Answer) → Same (on_truth go other a)
  at_truth go other same alike (truth true) = same
  at_truth go other same alike (truth false) = alike
  at_truth go other same alike _ = λ w none. refl

  value_same : (e : Ask) → Quiet e → (go : Val → Process) → ((v : Val) → Same (go v)) → Same (step (asks e (on_value go)))
  value_same e quiet go same = stepped (asks e (on_value go)) (asked e (on_value go) quiet (at_value go same))

  gives_same : (e : Ask) (result : World → Result Val ErrorKind) → ((w : World) (runners : Runners) → respond around runners w e ≡ replied_with w value (result w))
      → (go : Val → Process) → ((v : Val) → Same (go v)) → Same (step (asks e (on_value go)))
  gives_same e result is go same = value_same e (gives_quiet e value result is) go same

  truth_same : (v : Val) (go other : Process) → Same go → Same other → Same (step (asks (truth_of v) (on_truth go other)))
  truth_same v go other same alike =
      stepped (asks (truth_of v) (on_truth go other))
      (asked (truth_of v) (on_truth go other)
      (gives_quiet (truth_of v) truth (λ w. guarded (forbids_truth around.undefined v) (kinded (truths.truth_of (known_of w) v))) (λ w runners. refl)) (at_truth go other same alike))

  unary_same : (op : UnaryOpKind) (v : Val) → Quiet (unary_ask op v)
  unary_same Not v = gives_quiet (unary_ask Not v) value (λ w. guarded (forbids_truth around.undefined v) (kinded (inverted (known_of w) v))) (λ w runners. refl)
  unary_same Neg v = gives_quiet (unary_ask Neg v) value (λ w. kinded (negated v)) (λ w runners. refl)

  folded_same : (o : Option Val) (go : Val → Process) (p : Process) → ((v : Val) → Same (go v)) → Same p → Same (folded o go p)
  folded_same None go p same alike = alike
  folded_same (Some v) go p same alike = same v

  binary_same : (op : BinOpKind) (left right : (Val → Process) → Process) → Stays left → Stays right → Stays (binary_walk op left right)
  binary_same ScAnd left right f g go same = f _ (λ v. truth_same v (right go) (go v) (g go same) (same v))
  binary_same ScOr left right f g go same = f _ (λ v. truth_same v (go v) (right go) (same v) (g go same))
  binary_same op left right f g go same = f _ (λ v. g _ (λ w. gives_same (operate op v w) (λ x. guarded (forbids_operator around.undefined op v w) (kinded (operated (known_of x) op v w))) (λ x runners. refl) go same))

  -- the same after values in turn
  abbrev StaysAll : ((List Val → Process) → Process) → Type 0
  StaysAll walk = (go : List Val → Process) → ((vs : List Val) → Same (go vs)) → Same (walk go)

  at_all : (go : List Val → Process) → ((vs : List Val) → Same (go vs)) → (a : Answer) → Same (on_all go a)
  at_all go same (items vs) = same vs
  at_all go same _ = λ w none. refl

  listed_same : (vs : List Val) → StaysAll (listed vs)
  listed_same [] go same = same []
  listed_same (v ∷ vs) go same = gives_same (build_list (v ∷ vs)) (λ w. kinded (list_made (v ∷ vs))) (λ w runners. refl) (λ list. go (list ∷ [])) (λ list. same (list ∷ []))

  stretches_same : (vs : List Val) (args : List (Passing Giving Giving)) → EachPassed itself args → (go : List Val → List Val → Process)
      → ((lists rest : List Val) → Same (go lists rest)) → Same (stretches_walk vs args go)
  stretches_same vs [] each go same = same [] vs
  stretches_same vs (alone walk ∷ args) (alone_more f each) go same = f _ (λ v. stretches_same (vs ++ v ∷ []) args each _ same)
  stretches_same vs (spreads walk ∷ args) (spread_more f each) go same =
      listed_same vs _ (λ before. f _ (λ v. stretches_same [] args each _ (λ later rest. same (before ++ v ∷ later) rest)))

  mapped_same : (es : List (Val × Val)) → StaysAll (mapped es)
  mapped_same [] go same = same []
  mapped_same (e ∷ es) go same = gives_same (build_kwargs (e ∷ es)) (λ w. kinded (kwargs_made (e ∷ es))) (λ w runners. refl) (λ map. go (map ∷ [])) (λ map. same (map ∷ []))

  named_same : (es : List (Val × Val)) (args : List (Passing (List ℕ × Giving) Giving)) → EachPassed value_walk args → (go : List Val → List (Val × Val) → Process)
      → ((maps : List Val) (rest : List (Val × Val)) → Same (go maps rest)) → Same (entries_stretches es args go)
  named_same es [] each go same = same [] es
  named_same es (alone n ∷ args) (alone_more f each) go same = f _ (λ v. named_same (es ++ (text n.0, v) ∷ []) args each _ same)
  named_same es (spreads walk ∷ args) (spread_more f each) go same =
      mapped_same es _ (λ before. f _ (λ v. named_same [] args each _ (λ later rest. same (before ++ v ∷ later) rest)))

  merged_same : (several : Bool) (maps : List Val) → StaysAll (merged_if several maps)
  merged_same false maps go same = same maps
  merged_same true maps go same = gives_same (merge_kwargs maps) (λ w. merged_keywords around.undefined (known_of w) maps) (λ w runners. refl) (λ map. go (map ∷ [])) (λ map. same (map ∷ []))

  keywords_same : (named : List (Passing (List ℕ × Giving) Giving)) → EachPassed value_walk named → StaysAll (keywords_walk named)
  keywords_same named each go same =
      named_same [] named each _ (λ maps rest. mapped_same rest _ (λ more. merged_same (has_spread named) (maps ++ more) go same))

  run_same : (spread_one : Bool) (lists vs : List Val) → StaysAll (run_if spread_one lists vs)
  run_same false lists vs go same = same vs
  run_same true lists vs go same =
      listed_same vs _ (λ more. stepped (asks (spread (lists ++ more)) (on_all go)) (asked (spread (lists ++ more)) (on_all go) (gives_quiet (spread (lists ++ more)) items (λ w. items_of_each (known_of w) (lists ++ more)) (λ w runners. refl)) (at_all go same)))

  passed_same : (front : List Val) (args : List (Passing Giving Giving)) → EachPassed itself args → (named : List (Passing (List ℕ × Giving) Giving)) → EachPassed value_walk named
      → StaysAll (passed_walk front args named)
  passed_same front args each named others go same =
      stretches_same front args each _ (λ lists vs. keywords_same named others _ (λ last. run_same (has_spread args) lists (vs ++ last) go same))

  called_same : (callee : Callee) (whole object : Giving) → Stays whole → Stays object → (args : List (Passing Giving Giving)) → EachPassed itself args
      → (named : List (Passing (List ℕ × Giving) Giving)) → EachPassed value_walk named → Stays (called_walk callee whole object (λ front. passed_walk front args named))
  called_same (by_name name) whole object f g args each named others go same =
      passed_same [] args each named others (λ vs. step (asks (call_function name vs) (on_value go))) (λ vs. value_same (call_function name vs) (named_quiet name vs (is_super_name name) refl) go same)
  called_same (by_method name) whole object f g args each named others go same =
      g _ (λ v. passed_same (v ∷ []) args each named others (λ vs. step (asks (call_method name vs) (on_value go))) (λ vs. value_same (call_method name vs) (call_quiet (call_method name vs) (λ w. first_method w.globals (known_of w) name vs) (λ w. refl)) go same))
  called_same (by_block name) whole object f g args each named others go same =
      asked (begin_capture true) (on_done (step (asks (call_block name) (on_done (step (asks end_capture (on_value go)))))))
      (λ w none. planned_quiet w (begin_capture true) (changed (record w { captures = capture_begun true ∷ w.captures }) done) refl (with_captures w (capture_begun true ∷ w.captures) none))
      (at_done (step (asks (call_block name) (on_done (step (asks end_capture (on_value go))))))
      (stepped (asks (call_block name) (on_done (step (asks end_capture (on_value go)))))
      (asked (call_block name) (on_done (step (asks end_capture (on_value go)))) (block_quiet name)
      (at_done (step (asks end_capture (on_value go)))
      (value_same end_capture (λ w none. planned_quiet w end_capture (capture_ended w) refl (end_leaves w none w.captures)) go same)))))
  called_same by_value whole object f g args each named others go same =
      f _ (λ v. passed_same (v ∷ []) args each named others (λ vs. step (asks (call_value vs) (on_value go))) (λ vs. value_same (call_value vs) (call_quiet (call_value vs) (λ w. first_called w.globals vs) (λ w. refl)) go same))

  mutual
    stays : (e : Expression) → Stays (expression_walk e)
    stays (variable name) go same = gives_same (look_up name) (λ w. Ok (value_named name w)) (λ w runners. refl) go same
    stays (constant v) go same = same v
    stays (unary op e) go same =
        folded_same (constant_of (unary op e)) go _ same (stays e _ (λ v. value_same (unary_ask op v) (unary_same op v) go same))
    stays (binary op left right) go same =
        folded_same (constant_of (binary op left right)) go _ same (binary_same op (expression_walk left) (expression_walk right) (stays left) (stays right) go same)
    stays (chain first links) go same = folded_same (constant_of (chain first links)) go _ same (stays first _ (λ v. stays_chain links v go same))
    stays (conditional test branch otherwise) go same =
        stays test _ (λ v. truth_same v _ _ (stays branch _ (λ w. stepped (go w) (same w))) (stays_optional otherwise _ go same))
    stays (attribute e name) go same = stays e _ (λ v. gives_same (get_attribute v name) (λ w. attribute_given around.undefined (known_of w) v name) (λ w runners. refl) go same)
    stays (item e key) go same = stays e _ (λ v. stays key _ (λ k. gives_same (get_item v k) (λ w. item_given around.undefined (known_of w) v k) (λ w runners. refl) go same))
    stays (slice e start stop by) go same =
        stays e _ (λ v. stays_optional start _ _ (λ a. stays_optional stop _ _ (λ b. stays_optional by _ _ (λ c.
        gives_same (get_slice v a b c) (λ w. guarded (forbids_slicing around.undefined v) (kinded (slice_of v a b c))) (λ w runners. refl) go same))))
    stays (list_literal es) go same =
        folded_same (constant_of (list_literal es)) go _ same (stays_all es _ (λ vs. gives_same (build_list vs) (λ w. kinded (list_made vs)) (λ w runners. refl) go same))
    stays (tuple_literal es) go same =
        folded_same (constant_of (tuple_literal es)) go _ same (stays_all es _ (λ vs. gives_same (build_tuple vs) (λ w. kinded (tuple_made vs)) (λ w runners. refl) go same))
    stays (map_literal ks vs) go same =
        folded_same (constant_of (map_literal ks vs)) go _ same
        (stays_entries ks (walks_of vs) (stays_each vs) _ (λ entries. gives_same (build_map entries) (λ w. kinded (map_made entries)) (λ w runners. refl) go same))
    stays (call callee args) go same =
        called_same (callee_of callee args) (expression_walk callee) (object_walk callee) (stays callee) (stays_object callee)
        (positional_walks args) (stays_positional args) (keyword_walks args) (stays_keyword args) go same
    stays (filtered name (given e) args) go same =
        stays e _ (λ v. passed_same (v ∷ []) (positional_walks args) (stays_positional args) (keyword_walks args) (stays_keyword args)
        (λ vs. step (asks (apply_filter name vs) (on_value go))) (λ vs. value_same (apply_filter name vs) (call_quiet (apply_filter name vs) (λ w. invokes (filter_named name) vs) (λ w. refl)) go same))
    stays (tested name e args) go same =
        stays e _ (λ v. passed_same (v ∷ []) (positional_walks args) (stays_positional args) (keyword_walks args) (stays_keyword args)
        (λ vs. step (asks (perform_test name vs) (on_value go))) (λ vs. value_same (perform_test name vs) (call_quiet (perform_test name vs) (λ w. invokes (test_named name) vs) (λ w. refl)) go same))
    stays _ go same = λ w none. refl

    stays_object : (e : Expression) → Stays (object_walk e)
    stays_object (attribute e name) go same = stays e go same
    stays_object _ go same = λ w none. refl

    stays_positional : (args : Arguments) → EachPassed itself (positional_walks args)
    stays_positional no_arguments = none_passed
    stays_positional (arguments_more (positional e) args) = alone_more (stays e) (stays_positional args)
    stays_positional (arguments_more (positional_spread e) args) = spread_more (stays e) (stays_positional args)
    stays_positional (arguments_more _ args) = stays_positional args

    stays_keyword : (args : Arguments) → EachPassed value_walk (keyword_walks args)
    stays_keyword no_arguments = none_passed
    stays_keyword (arguments_more (keyword name e) args) = alone_more (stays e) (stays_keyword args)
    stays_keyword (arguments_more (keyword_spread e) args) = spread_more (stays e) (stays_keyword args)
    stays_keyword (arguments_more _ args) = stays_keyword args

    stays_optional : (o : Optional) (missing : Val) → Stays (optional_walk missing o)
    stays_optional absent missing go same = same missing
    stays_optional (given e) missing go same = stays e go same

    stays_all : (es : Expressions) (go : List Val → Process) → ((vs : List Val) → Same (go vs)) → Same (expressions_walk es go)
    stays_all no_expressions go same = same []
    stays_all (expressions_more e es) go same = stays e _ (λ v. stays_all es _ (λ vs. same (v ∷ vs)))

    stays_each : (es : Expressions) → Each (walks_of es)
    stays_each no_expressions = none_left
    stays_each (expressions_more e es) = each_more (stays e) (stays_each es)

    stays_entries : (ks : Expressions) (walks : List ((Val → Process) → Process)) → Each walks → (go : List (Val × Val) → Process)
        → ((entries : List (Val × Val)) → Same (go entries)) → Same (entries_walk ks walks go)
    stays_entries no_expressions walks each go same = same []
    stays_entries (expressions_more k ks) [] each go same = same []
    stays_entries (expressions_more k ks) (walk ∷ walks) (each_more f each) go same =
        stays k _ (λ key. f _ (λ held. stays_entries ks walks each _ (λ entries. same ((key, held) ∷ entries))))

    stays_chain : (links : Links) (v : Val) → Stays (chain_walk v links)
    stays_chain no_links v go same = λ w none. refl
    stays_chain (links_more op e links) v go same =
        stays e _ (λ w. gives_same (compare op v w) (λ x. guarded (forbids_link around.undefined op v w) (kinded (compared (known_of x) op v w))) (λ x runners. refl) _ (λ holds. stays_linked links w holds go same))

    stays_linked : (links : Links) (v holds : Val) → Stays (linked_walk v holds links)
    stays_linked no_links v holds go same = stepped (go holds) (same holds)
    stays_linked (links_more op e links) v holds go same =
        truth_same holds _ _ (stays e _ (λ w. gives_same (compare op v w) (λ x. guarded (forbids_link around.undefined op v w) (kinded (compared (known_of x) op v w))) (λ x runners. refl) _ (λ later. stays_linked links w later go same)))
        (stepped (go holds) (same holds))

pub evaluations_need_no_bound : EvaluationsNeedNoBound
evaluations_need_no_bound setting n e w none =
    let s = meanings.walks_of setting None in stays s.around (runners s n) (runners s 0) e (λ v. over (v ∷ [])) (λ v x still. refl) w none

-- where nothing is to be entered
module _ (setting : Setting) where
  abbrev nothing_runs : Programs
  nothing_runs = record { process = λ n key. None; around = (meanings.walks_of setting None).around }

  no_runs : (n : ℕ) (key : Key) → runners nothing_runs n key ≡ None
  no_runs zero key = refl
  no_runs (suc n) key = refl

  abbrev alone_run : ℕ → Expression → World → Run World
  alone_run n e w = run (answer nothing_runs n) (standalone_walk e) w

  same_alone : (n : ℕ) (e : Expression) (w : World) → IsAlone w → alone_run n e w ≡ evaluation setting e w
  same_alone n e w none =
      let s = meanings.walks_of setting None in stays s.around (runners nothing_runs n) (runners s 0) e (λ v. over (v ∷ [])) (λ v x still. refl) w none

  given_end : (e : Expression) (w : World) → IsAlone w → Settles {O = Val} nothing_runs w (Kept [] w) (λ m go. expression_walk e go) → GivesOne (evaluation setting e w).end
  given_end e w none (inl p) =
      let P : Run World → Type 0 = λ r. GivesOne r.end in
      subst P (sym (p.is p.least p.least (omega arith) (omega arith) (λ v. over (v ∷ []))) ∙ same_alone p.least e w none) tt
  given_end e w none (inr p) =
      let P : Run World → Type 0 = λ r. GivesOne r.end in
      subst P (sym (p.is p.least p.least (omega arith) (omega arith) (λ v. over (v ∷ []))) ∙ same_alone p.least e w none) tt

pub every_evaluation_gives : EveryEvaluationGives
every_evaluation_gives setting e h w none =
    let deep : 0 ≤ depth_of w = omega arith in
    given_end setting e w none
    (settles_expression [] (nothing_runs setting) 0 (λ key v starts below few. inl (λ n. no_runs setting n key)) w deep e h w (keeps_itself [] w))
