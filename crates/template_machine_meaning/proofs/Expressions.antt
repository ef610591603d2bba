-- Each runnable expression settles.
use Rattle.std.proofs.Common.{◌≡◌, ℕ, ◌≤◌, inl, inr, Bool, true, false, List, [], ◌∷◌, ◌++◌, Option, None, Some, Result, Ok, Err, refl, ap, ◌∙◌, arith}
use Rattle.std.specs.Prelude.{◌&&◌, if◌then◌else◌}
use Rattle.template_values_errors.specs.declared.ErrorKind.{ErrorKind}
use Rattle.template_values_model.specs.Val.{Val, silent_undefined, none, text}
use Rattle.template_values_forms.specs.Truth as truths
use Rattle.template_values_operators.specs.Kinds.{list_made}
use Rattle.template_values_operators.specs.Slices.{slice_of}
use Rattle.template_compiler_tree.specs.declared.operators.UnaryOpKind.{UnaryOpKind}
use Rattle.template_compiler_tree.specs.declared.operators.UnaryOpKind.TheVariants.{Not, Neg}
use Rattle.template_compiler_tree.specs.declared.operators.BinOpKind.{BinOpKind}
use Rattle.template_compiler_tree.specs.declared.operators.BinOpKind.TheVariants.{ScAnd, ScOr}
use Rattle.template_compiler_tree.specs.Tree.{Expression, Optional, Expressions, Links, Arguments, variable, constant, slice, unary, binary, chain, conditional, attribute, item, call, filtered, tested, list_literal, tuple_literal, map_literal, absent, given, no_expressions, expressions_more, no_links, links_more, no_arguments, arguments_more, positional, keyword, positional_spread, keyword_spread}
use Rattle.template_compiler_tree.specs.Kinds.{is_self_name, is_empty}
use Rattle.template_compiler_process.specs.Process.{Ask, look_up, operate, compare, get_attribute, get_item, get_slice, build_list, build_tuple, build_map, build_kwargs, merge_kwargs, spread, call_function, call_method, call_value, apply_filter, perform_test, truth_of, value, truth, Process, step, asks, on_value, on_truth, on_all}
use Rattle.template_compiler_process.specs.Trace.{run, replied}
use Rattle.template_compiler_walk.specs.Constants.{constant_of}
use Rattle.template_compiler_walk.specs.Containers.{tuple_made, map_made, kwargs_made}
use Rattle.template_compiler_walk.specs.Expressions.{folded, unary_ask, binary_walk, Giving, Passing, alone, spreads, listed, stretches_walk, mapped, entries_stretches, has_spread, merged_if, keywords_walk, run_if, passed_walk, Callee, by_name, by_method, by_block, by_value, attribute_called, callee_of, called_walk, expression_walk, object_walk, positional_walks, keyword_walks, optional_walk, expressions_walk, walks_of, entries_walk, chain_walk, linked_walk, filter_walk, filters_walk}
use Rattle.template_compiler_walk.specs.Statements.{is_super_name}
use Rattle.template_compiler_walk.specs.Operators.{operated, compared, inverted, negated}
use Rattle.template_compiler_walk.specs.Runnable.{IsRunnable, IsRunnableIfGiven, AreRunnableArguments, AreRunnable, IsRunnableChain, AreRunnableLinks, AreFilters}
use Rattle.template_machine_meaning.specs.World.{World, looked_up, value_named, depth_of}
use Rattle.template_machine_meaning.specs.Plans.{caller_of}
use Rattle.template_machine_meaning.specs.Records.{known_of}
use Rattle.template_machine_meaning.specs.Undefined.{forbids_truth, forbids_operator, forbids_link, forbids_slicing}
use Rattle.template_machine_meaning.specs.Replies.{guarded, replied_with, kinded}
use Rattle.template_machine_meaning.specs.Functions.{Invoked, filter_named, test_named, Called, invokes, name_called, first_method, first_called}
use Rattle.template_machine_meaning.specs.Calls.{call_plan}
use Rattle.template_machine_meaning.specs.Spreads.{items_of_each, merged_keywords}
use Rattle.template_machine_meaning.specs.Plans.{Plan}
use Rattle.template_machine_meaning.specs.Blocks.{super_called}
use Rattle.template_machine_meaning.specs.Surroundings.{Programs, plan, attribute_given, item_given, answer}
use Rattle.template_machine_meaning.proofs.Settling.{Walk, Settles, settles_then, settles_now, settles_step, settles_value, settles_items}
use Rattle.template_machine_meaning.proofs.Keeping.{Keeps, keeps_on, same_depth}
use Rattle.template_machine_meaning.proofs.Calling.{KeepsFor, keeps_stands, Entered, settles_plan, call_comes}
use Rattle.template_machine_meaning.proofs.Within.{entries}
use Rattle.template_machine_meaning.proofs.Entering.{AllCome}
use Rattle.template_machine_meaning.proofs.Blocks.{Kept, settles_super, settles_block_text}

-- what gives the walk of an argument: the argument itself, or it stands behind a name
abbrev pub itself : Giving → Giving
itself walk = walk

abbrev pub value_walk : List ℕ × Giving → Giving
value_walk named = named.1

-- an event that decides between two walks
pub settles_decided : {O : Type 0} (s : Programs) (w : World) (shape : O → World → Type 0) (e : Ask) (r : Result Bool ErrorKind) (P Q : Walk O)
    → ((n : ℕ) → answer s n w e ≡ replied_with w truth r) → Settles {O = O} s w shape P → Settles {O = O} s w shape Q → Settles {O = O} s w shape (λ m go. asks e (on_truth (P m go) (Q m go)))
settles_decided s w shape e (Ok true) P Q is (inl p) q = inl (record { items = p.items; least = p.least; out = p.out; after = p.after; shaped = p.shaped; is = λ n m le ge go. ap (replied (λ a t. run (answer s n) (on_truth (P m go) (Q m go) a) t)) (is n) ∙ p.is n m le ge go })
settles_decided s w shape e (Ok true) P Q is (inr p) q = inr (record { items = p.items; least = p.least; kinds = p.kinds; after = p.after; is = λ n m le ge go. ap (replied (λ a t. run (answer s n) (on_truth (P m go) (Q m go) a) t)) (is n) ∙ p.is n m le ge go })
settles_decided s w shape e (Ok false) P Q is p (inl q) = inl (record { items = q.items; least = q.least; out = q.out; after = q.after; shaped = q.shaped; is = λ n m le ge go. ap (replied (λ a t. run (answer s n) (on_truth (P m go) (Q m go) a) t)) (is n) ∙ q.is n m le ge go })
settles_decided s w shape e (Ok false) P Q is p (inr q) = inr (record { items = q.items; least = q.least; kinds = q.kinds; after = q.after; is = λ n m le ge go. ap (replied (λ a t. run (answer s n) (on_truth (P m go) (Q m go) a) t)) (is n) ∙ q.is n m le ge go })
settles_decided s w shape e (Err kind) P Q is p q = inr (record { items = []; least = 0; kinds = kind ∷ []; after = w; is = λ n m le ge go. ap (replied (λ a t. run (answer s n) (on_truth (P m go) (Q m go) a) t)) (is n) })

-- a step, and a test of a value that decides between two walks
pub settles_tested : {O : Type 0} (s : Programs) (w : World) (shape : O → World → Type 0) (v : Val) (P Q : Walk O) → Settles {O = O} s w shape P → Settles {O = O} s w shape Q
    → Settles {O = O} s w shape (λ m go. step (asks (truth_of v) (on_truth (P m go) (Q m go))))
settles_tested s w shape v P Q p q =
    settles_step s w shape (λ m go. asks (truth_of v) (on_truth (P m go) (Q m go)))
    (settles_decided s w shape (truth_of v) (guarded (forbids_truth s.around.undefined v) (kinded (truths.truth_of (known_of w) v))) P Q (λ n. refl) p q)

-- a walk of an expression
abbrev walk_of : Expression → Walk Val
walk_of e m go = expression_walk e go

module _ (names : List (List ℕ)) (s : Programs) (depth : ℕ) (deeper : AllCome names s depth) (base : World) (deep : depth ≤ depth_of base) where
  abbrev pub Gives : World → Walk Val → Type 0
  Gives w P = Settles {O = Val} s w (Kept names base) P

  -- a step, and an event that gives a value
  pub given_by : (w : World) → Keeps names base w → (e : Ask) (r : Result Val ErrorKind) → ((n : ℕ) → answer s n w e ≡ replied_with w value r) → Gives w (λ m go. step (asks e (on_value go)))
  given_by w kept e r is = settles_step s w (Kept names base) (λ m go. asks e (on_value go)) (settles_value s w (Kept names base) e r (λ v. kept) is)

  -- a step, and a call
  call_settles : (w : World) → Keeps names base w → (e : Ask) (c : Called) → plan s.around w e ≡ call_plan s.around w c → Gives w (λ m go. asks e (on_value go))
  call_settles w kept e c planned =
      let holds : World → Type 0 = KeepsFor names base (caller_of w) in
      settles_plan s holds (Keeps names base) (λ y held. held.0) w e (call_plan s.around w c) planned
      (call_comes holds (keeps_stands names base (caller_of w)) (Entered s (caller_of w) (Keeps names base)) s.around (entries names s depth deeper base deep (caller_of w)) w (kept, refl) c)

  called_by : (w : World) → Keeps names base w → (e : Ask) (c : Called) → plan s.around w e ≡ call_plan s.around w c
      → Gives w (λ m go. step (asks e (on_value go)))
  called_by w kept e c planned = settles_step s w (Kept names base) (λ m go. asks e (on_value go)) (call_settles w kept e c planned)

  -- a step, and a test of a value
  decided_by : (w : World) (v : Val) (P Q : Walk Val) → Gives w P → Gives w Q → Gives w (λ m go. step (asks (truth_of v) (on_truth (P m go) (Q m go))))
  decided_by w v P Q p q = settles_tested s w (Kept names base) v P Q p q

  -- a value is given at once, behind a step
  given_now : (w : World) → Keeps names base w → (v : Val) → Gives w (λ m go. step (go v))
  given_now w kept v = settles_step s w (Kept names base) (λ m go. go v) (settles_now s w (Kept names base) v kept)

  given_folded : (o : Option Val) (w : World) → Keeps names base w → (P : Walk Val) → Gives w P → Gives w (λ m go. folded o go (P m go))
  given_folded None w kept P p = p
  given_folded (Some v) w kept P p = settles_now s w (Kept names base) v kept

  -- what settles from every world that keeps what the base has
  abbrev pub Always : Walk Val → Type 0
  Always P = (w : World) → Keeps names base w → Gives w P

  given_then : (w : World) (P : Walk Val) (Q : Val → Walk Val) → Gives w P → ((v : Val) → Always (Q v)) → Gives w (λ m go. P m (λ v. Q v m go))
  given_then w P Q p next = settles_then s w (Kept names base) (Kept names base) P Q p (λ v x kept. next v x kept)

  unary_given : (op : UnaryOpKind) (v : Val) → Always (λ m go. step (asks (unary_ask op v) (on_value go)))
  unary_given Not v w kept = given_by w kept _ (guarded (forbids_truth s.around.undefined v) (kinded (inverted (known_of w) v))) (λ n. refl)
  unary_given Neg v w kept = given_by w kept _ (kinded (negated v)) (λ n. refl)

  binary_given : (op : BinOpKind) (left right : (Val → Process) → Process) → Always (λ m go. left go) → Always (λ m go. right go) → Always (λ m go. binary_walk op left right go)
  binary_given ScAnd left right f g w kept =
      given_then w (λ m go. left go) (λ v m go. step (asks (truth_of v) (on_truth (right go) (go v)))) (f w kept)
      (λ v x k. decided_by x v (λ m go. right go) (λ m go. go v) (g x k) (settles_now s x (Kept names base) v k))
  binary_given ScOr left right f g w kept =
      given_then w (λ m go. left go) (λ v m go. step (asks (truth_of v) (on_truth (go v) (right go)))) (f w kept)
      (λ v x k. decided_by x v (λ m go. go v) (λ m go. right go) (settles_now s x (Kept names base) v k) (g x k))
  binary_given op left right f g w kept =
      given_then w (λ m go. left go) (λ v m go. right (λ u. step (asks (operate op v u) (on_value go)))) (f w kept)
      (λ v x k. given_then x (λ m go. right go) (λ u m go. step (asks (operate op v u) (on_value go))) (g x k)
      (λ u y l. given_by y l (operate op v u) (guarded (forbids_operator s.around.undefined op v u) (kinded (operated (known_of y) op v u))) (λ n. refl)))

  data EachGives : List ((Val → Process) → Process) → Type 0 where
    none_left : EachGives []
    each_more : {walk : (Val → Process) → Process} {walks : List ((Val → Process) → Process)} → Always (λ m go. walk go) → EachGives walks → EachGives (walk ∷ walks)

  pub data EachPassed {X : Type 0} (walk_in : X → Giving) : List (Passing X Giving) → Type 0 where
    none_passed : EachPassed walk_in []
    alone_more : {x : X} {args : List (Passing X Giving)} → Always (λ m go. walk_in x go) → EachPassed walk_in args → EachPassed walk_in (alone x ∷ args)
    spread_more : {walk : Giving} {args : List (Passing X Giving)} → Always (λ m go. walk go) → EachPassed walk_in args → EachPassed walk_in (spreads walk ∷ args)

  -- values in turn
  abbrev GivesAll : World → Walk (List Val) → Type 0
  GivesAll w P = Settles {O = List Val} s w (Kept names base) P

  settles_listed : (vs : List Val) (w : World) → Keeps names base w → GivesAll w (λ m go. listed vs go)
  settles_listed [] w kept = settles_now s w (Kept names base) [] kept
  settles_listed (v ∷ vs) w kept =
      settles_then s w (Kept names base) (Kept names base) (λ m go. step (asks (build_list (v ∷ vs)) (on_value go))) (λ list m go. go (list ∷ []))
      (given_by w kept (build_list (v ∷ vs)) (kinded (list_made (v ∷ vs))) (λ n. refl))
      (λ list x k. settles_now s x (Kept names base) (list ∷ []) k)

  -- the lists and spreads, and the last stretch
  settles_stretches : (vs : List Val) (args : List (Passing Giving Giving)) → EachPassed itself args → (w : World) → Keeps names base w
      → Settles {O = List Val × List Val} s w (Kept names base) (λ m go. stretches_walk vs args (λ lists rest. go (lists, rest)))
  settles_stretches vs [] each w kept = settles_now s w (Kept names base) ([], vs) kept
  settles_stretches vs (alone walk ∷ args) (alone_more f each) w kept =
      settles_then s w (Kept names base) (Kept names base) (λ m go. walk go) (λ v m go. stretches_walk (vs ++ v ∷ []) args (λ lists rest. go (lists, rest))) (f w kept)
      (λ v x k. settles_stretches (vs ++ v ∷ []) args each x k)
  settles_stretches vs (spreads walk ∷ args) (spread_more f each) w kept =
      settles_then s w (Kept names base) (Kept names base) (λ m go. listed vs go) (λ before m go. walk (λ v. stretches_walk [] args (λ later rest. go (before ++ v ∷ later, rest)))) (settles_listed vs w kept)
      (λ before x k. settles_then s x (Kept names base) (Kept names base) (λ m go. walk go) (λ v m go. stretches_walk [] args (λ later rest. go (before ++ v ∷ later, rest))) (f x k)
      (λ v y l. settles_then s y (Kept names base) (Kept names base) (λ m go. stretches_walk [] args (λ later rest. go (later, rest))) (λ o m go. go (before ++ v ∷ o.0, o.1)) (settles_stretches [] args each y l)
      (λ o z i. settles_now s z (Kept names base) (before ++ v ∷ o.0, o.1) i)))

  settles_mapped : (es : List (Val × Val)) (w : World) → Keeps names base w → GivesAll w (λ m go. mapped es go)
  settles_mapped [] w kept = settles_now s w (Kept names base) [] kept
  settles_mapped (e ∷ es) w kept =
      settles_then s w (Kept names base) (Kept names base) (λ m go. step (asks (build_kwargs (e ∷ es)) (on_value go))) (λ map m go. go (map ∷ []))
      (given_by w kept (build_kwargs (e ∷ es)) (kinded (kwargs_made (e ∷ es))) (λ n. refl))
      (λ map x k. settles_now s x (Kept names base) (map ∷ []) k)

  -- so it is of names with their values
  settles_named : (es : List (Val × Val)) (args : List (Passing (List ℕ × Giving) Giving)) → EachPassed value_walk args → (w : World) → Keeps names base w
      → Settles {O = List Val × List (Val × Val)} s w (Kept names base) (λ m go. entries_stretches es args (λ maps rest. go (maps, rest)))
  settles_named es [] each w kept = settles_now s w (Kept names base) ([], es) kept
  settles_named es (alone n ∷ args) (alone_more f each) w kept =
      settles_then s w (Kept names base) (Kept names base) (λ m go. n.1 go) (λ v m go. entries_stretches (es ++ (text n.0, v) ∷ []) args (λ maps rest. go (maps, rest))) (f w kept)
      (λ v x k. settles_named (es ++ (text n.0, v) ∷ []) args each x k)
  settles_named es (spreads walk ∷ args) (spread_more f each) w kept =
      settles_then s w (Kept names base) (Kept names base) (λ m go. mapped es go) (λ before m go. walk (λ v. entries_stretches [] args (λ later rest. go (before ++ v ∷ later, rest)))) (settles_mapped es w kept)
      (λ before x k. settles_then s x (Kept names base) (Kept names base) (λ m go. walk go) (λ v m go. entries_stretches [] args (λ later rest. go (before ++ v ∷ later, rest))) (f x k)
      (λ v y l. settles_then s y (Kept names base) (Kept names base) (λ m go. entries_stretches [] args (λ later rest. go (later, rest))) (λ o m go. go (before ++ v ∷ o.0, o.1)) (settles_named [] args each y l)
      (λ o z i. settles_now s z (Kept names base) (before ++ v ∷ o.0, o.1) i)))

  settles_merged : (several : Bool) (maps : List Val) (w : World) → Keeps names base w → GivesAll w (λ m go. merged_if several maps go)
  settles_merged false maps w kept = settles_now s w (Kept names base) maps kept
  settles_merged true maps w kept =
      settles_then s w (Kept names base) (Kept names base) (λ m go. step (asks (merge_kwargs maps) (on_value go))) (λ map m go. go (map ∷ []))
      (given_by w kept (merge_kwargs maps) (merged_keywords s.around.undefined (known_of w) maps) (λ n. refl))
      (λ map x k. settles_now s x (Kept names base) (map ∷ []) k)

  settles_keywords : (named : List (Passing (List ℕ × Giving) Giving)) → EachPassed value_walk named → (w : World) → Keeps names base w → GivesAll w (λ m go. keywords_walk named go)
  settles_keywords named each w kept =
      settles_then s w (Kept names base) (Kept names base) (λ m go. entries_stretches [] named (λ maps rest. go (maps, rest))) (λ o m go. mapped o.1 (λ more. merged_if (has_spread named) (o.0 ++ more) go))
      (settles_named [] named each w kept)
      (λ o x k. settles_then s x (Kept names base) (Kept names base) (λ m go. mapped o.1 go) (λ more m go. merged_if (has_spread named) (o.0 ++ more) go) (settles_mapped o.1 x k)
      (λ more y l. settles_merged (has_spread named) (o.0 ++ more) y l))

  settles_run : (spread_one : Bool) (lists vs : List Val) (w : World) → Keeps names base w → GivesAll w (λ m go. run_if spread_one lists vs go)
  settles_run false lists vs w kept = settles_now s w (Kept names base) vs kept
  settles_run true lists vs w kept =
      settles_then s w (Kept names base) (Kept names base) (λ m go. listed vs go) (λ more m go. step (asks (spread (lists ++ more)) (on_all go))) (settles_listed vs w kept)
      (λ more x k. settles_step s x (Kept names base) (λ m go. asks (spread (lists ++ more)) (on_all go))
      (settles_items s x (Kept names base) (spread (lists ++ more)) (items_of_each (known_of x) (lists ++ more)) (λ vs. k) (λ n. refl)))

  settles_passed : (front : List Val) (args : List (Passing Giving Giving)) → EachPassed itself args → (named : List (Passing (List ℕ × Giving) Giving)) → EachPassed value_walk named
      → (w : World) → Keeps names base w → GivesAll w (λ m go. passed_walk front args named go)
  settles_passed front args each named others w kept =
      settles_then s w (Kept names base) (Kept names base) (λ m go. stretches_walk front args (λ lists vs. go (lists, vs))) (λ o m go. keywords_walk named (λ last. run_if (has_spread args) o.0 (o.1 ++ last) go))
      (settles_stretches front args each w kept)
      (λ o x k. settles_then s x (Kept names base) (Kept names base) (λ m go. keywords_walk named go) (λ last m go. run_if (has_spread args) o.0 (o.1 ++ last) go) (settles_keywords named others x k)
      (λ last y l. settles_run (has_spread args) o.0 (o.1 ++ last) y l))

  -- a method has an object
  abbrev pub ObjectGives : Callee → Giving → Type 0
  ObjectGives (by_method name) object = Always (λ m go. object go)
  ObjectGives _ object = Unit {0}

  object_by : (b : Bool) (name : List ℕ) (object : Giving) → Always (λ m go. object go) → ObjectGives (attribute_called b name) object
  object_by true name object gives = tt
  object_by false name object gives = gives

  -- a call by a name: of what stands behind a block, or of what the name stands for
  abbrev called_plan_of : World → List ℕ → List Val → Bool → Plan
  called_plan_of w name vs b = if b then super_called s.around w vs else call_plan s.around w (name_called w.globals (looked_up name w) vs)

  named_call : (name : List ℕ) (vs : List Val) (w : World) → Keeps names base w → (b : Bool) → is_super_name name ≡ b → Gives w (λ m go. asks (call_function name vs) (on_value go))
  named_call name vs w kept true is =
      let same : depth_of w ≡ depth_of base = same_depth names base w kept in
      let within : depth ≤ depth_of w = omega (arith, deep, same) in
      settles_then s w (Kept names w) (Kept names base) (λ m go. asks (call_function name vs) (on_value go)) (λ v m go. go v)
      (settles_super names s depth deeper w within (call_function name vs) vs (ap (called_plan_of w name vs) is))
      (λ v x k. settles_now s x (Kept names base) v (keeps_on names base w x kept k))
  named_call name vs w kept false is =
      call_settles w kept (call_function name vs) (name_called w.globals (looked_up name w) vs) (ap (λ (b : Bool). called_plan_of w name vs b) is)

  pub settles_called : (callee : Callee) (whole object : Giving) → Always (λ m go. whole go) → ObjectGives callee object → (args : List (Passing Giving Giving)) → EachPassed itself args
      → (named : List (Passing (List ℕ × Giving) Giving)) → EachPassed value_walk named → Always (λ m go. called_walk callee whole object (λ front. passed_walk front args named) go)
  settles_called (by_name name) whole object f g args each named others w kept =
      settles_then s w (Kept names base) (Kept names base) (λ m go. passed_walk [] args named go) (λ vs m go. step (asks (call_function name vs) (on_value go))) (settles_passed [] args each named others w kept)
      (λ vs x k. settles_step s x (Kept names base) (λ m go. asks (call_function name vs) (on_value go)) (named_call name vs x k (is_super_name name) refl))
  settles_called (by_method name) whole object f g args each named others w kept =
      given_then w (λ m go. object go) (λ v m go. passed_walk (v ∷ []) args named (λ vs. step (asks (call_method name vs) (on_value go)))) (g w kept)
      (λ v x k. settles_then s x (Kept names base) (Kept names base) (λ m go. passed_walk (v ∷ []) args named go) (λ vs m go. step (asks (call_method name vs) (on_value go))) (settles_passed (v ∷ []) args each named others x k)
      (λ vs y l. called_by y l (call_method name vs) (first_method y.globals (known_of y) name vs) refl))
  settles_called (by_block name) whole object f g args each named others w kept = settles_block_text names s depth deeper base deep name w kept
  settles_called by_value whole object f g args each named others w kept =
      given_then w (λ m go. whole go) (λ v m go. passed_walk (v ∷ []) args named (λ vs. step (asks (call_value vs) (on_value go)))) (f w kept)
      (λ v x k. settles_then s x (Kept names base) (Kept names base) (λ m go. passed_walk (v ∷ []) args named go) (λ vs m go. step (asks (call_value vs) (on_value go))) (settles_passed (v ∷ []) args each named others x k)
      (λ vs y l. called_by y l (call_value vs) (first_called y.globals vs) refl))

  -- a filter or a test, over a value and arguments
  settles_handed : (e : List Val → Ask) (what : Invoked)
      → ((w : World) (vs : List Val) → plan s.around w (e vs) ≡ call_plan s.around w (invokes what vs)) → (v : Val)
      → (args : List (Passing Giving Giving)) → EachPassed itself args → (named : List (Passing (List ℕ × Giving) Giving)) → EachPassed value_walk named
      → Always (λ m go. passed_walk (v ∷ []) args named (λ vs. step (asks (e vs) (on_value go))))
  settles_handed e what is v args each named others w kept =
      settles_then s w (Kept names base) (Kept names base) (λ m go. passed_walk (v ∷ []) args named go) (λ vs m go. step (asks (e vs) (on_value go))) (settles_passed (v ∷ []) args each named others w kept)
      (λ vs x k. called_by x k (e vs) (invokes what vs) (is x vs))

  mutual
    pub settles_expression : (e : Expression) → IsRunnable e → Always (walk_of e)
    settles_expression (variable name) h w kept = given_by w kept (look_up name) (Ok (value_named name w)) (λ n. refl)
    settles_expression (constant v) h w kept = settles_now s w (Kept names base) v kept
    settles_expression (unary op e) h w kept =
        given_folded (constant_of (unary op e)) w kept (λ m go. expression_walk e (λ v. step (asks (unary_ask op v) (on_value go))))
        (given_then w (walk_of e) (λ v m go. step (asks (unary_ask op v) (on_value go))) (settles_expression e h w kept) (unary_given op))
    settles_expression (binary op left right) h w kept =
        given_folded (constant_of (binary op left right)) w kept (λ m go. binary_walk op (expression_walk left) (expression_walk right) go)
        (binary_given op (expression_walk left) (expression_walk right) (settles_expression left h.0) (settles_expression right h.1) w kept)
    settles_expression (chain first links) h w kept =
        given_folded (constant_of (chain first links)) w kept (λ m go. expression_walk first (λ v. chain_walk v links go))
        (given_then w (walk_of first) (λ v m go. chain_walk v links go) (settles_expression first h.0 w kept) (λ v. settles_chain links h.1 v))
    settles_expression (conditional test branch otherwise) h w kept =
        given_then w (walk_of test) (λ v m go. step (asks (truth_of v) (on_truth (expression_walk branch (λ u. step (go u))) (optional_walk silent_undefined otherwise go)))) (settles_expression test h.0 w kept)
        (λ v x k. decided_by x v (λ m go. expression_walk branch (λ u. step (go u))) (λ m go. optional_walk silent_undefined otherwise go)
        (given_then x (walk_of branch) (λ u m go. step (go u)) (settles_expression branch h.1 x k) (λ u y l. given_now y l u))
        (settles_optional otherwise h.2 silent_undefined x k))
    settles_expression (attribute e name) h w kept =
        given_then w (walk_of e) (λ v m go. step (asks (get_attribute v name) (on_value go))) (settles_expression e h w kept)
        (λ v x k. given_by x k (get_attribute v name) (attribute_given s.around.undefined (known_of x) v name) (λ n. refl))
    settles_expression (item e key) h w kept =
        given_then w (walk_of e) (λ v m go. expression_walk key (λ u. step (asks (get_item v u) (on_value go)))) (settles_expression e h.0 w kept)
        (λ v x k. given_then x (walk_of key) (λ u m go. step (asks (get_item v u) (on_value go))) (settles_expression key h.1 x k)
        (λ u y l. given_by y l (get_item v u) (item_given s.around.undefined (known_of y) v u) (λ n. refl)))
    settles_expression (slice e start stop by) h w kept =
        given_then w (walk_of e) (λ v m go. optional_walk none start (λ a. optional_walk none stop (λ b. optional_walk none by (λ c. step (asks (get_slice v a b c) (on_value go)))))) (settles_expression e h.0 w kept)
        (λ v x k. given_then x (λ m go. optional_walk none start go) (λ a m go. optional_walk none stop (λ b. optional_walk none by (λ c. step (asks (get_slice v a b c) (on_value go))))) (settles_optional start h.1 none x k)
        (λ a y l. given_then y (λ m go. optional_walk none stop go) (λ b m go. optional_walk none by (λ c. step (asks (get_slice v a b c) (on_value go)))) (settles_optional stop h.2 none y l)
        (λ b z i. given_then z (λ m go. optional_walk none by go) (λ c m go. step (asks (get_slice v a b c) (on_value go))) (settles_optional by h.3 none z i)
        (λ c u j. given_by u j (get_slice v a b c) (guarded (forbids_slicing s.around.undefined v) (kinded (slice_of v a b c))) (λ n. refl)))))
    settles_expression (list_literal es) h w kept =
        given_folded (constant_of (list_literal es)) w kept (λ m go. expressions_walk es (λ vs. step (asks (build_list vs) (on_value go))))
        (settles_then s w (Kept names base) (Kept names base) (λ m go. expressions_walk es go) (λ vs m go. step (asks (build_list vs) (on_value go))) (settles_all es h w kept)
        (λ vs x k. given_by x k (build_list vs) (kinded (list_made vs)) (λ n. refl)))
    settles_expression (tuple_literal es) h w kept =
        given_folded (constant_of (tuple_literal es)) w kept (λ m go. expressions_walk es (λ vs. step (asks (build_tuple vs) (on_value go))))
        (settles_then s w (Kept names base) (Kept names base) (λ m go. expressions_walk es go) (λ vs m go. step (asks (build_tuple vs) (on_value go))) (settles_all es h w kept)
        (λ vs x k. given_by x k (build_tuple vs) (kinded (tuple_made vs)) (λ n. refl)))
    settles_expression (map_literal ks vs) h w kept =
        given_folded (constant_of (map_literal ks vs)) w kept (λ m go. entries_walk ks (walks_of vs) (λ entries. step (asks (build_map entries) (on_value go))))
        (settles_then s w (Kept names base) (Kept names base) (λ m go. entries_walk ks (walks_of vs) go) (λ entries m go. step (asks (build_map entries) (on_value go))) (settles_entries ks h.0 (walks_of vs) (settles_each vs h.1) w kept)
        (λ entries x k. given_by x k (build_map entries) (kinded (map_made entries)) (λ n. refl)))
    settles_expression (call callee args) h w kept =
        settles_called (callee_of callee args) (expression_walk callee) (object_walk callee) (settles_expression callee h.0) (settles_object callee args h.0)
        (positional_walks args) (settles_positional args h.1) (keyword_walks args) (settles_keyword args h.1) w kept
    settles_expression (filtered name (given e) args) h w kept =
        given_then w (walk_of e) (λ v m go. filter_walk name args v go) (settles_expression e h.0 w kept)
        (λ v. settles_handed (apply_filter name) (filter_named name) (λ x vs. refl) v (positional_walks args) (settles_positional args h.1) (keyword_walks args) (settles_keyword args h.1))
    settles_expression (tested name e args) h w kept =
        given_then w (walk_of e) (λ v m go. passed_walk (v ∷ []) (positional_walks args) (keyword_walks args) (λ vs. step (asks (perform_test name vs) (on_value go)))) (settles_expression e h.0 w kept)
        (λ v. settles_handed (perform_test name) (test_named name) (λ x vs. refl) v (positional_walks args) (settles_positional args h.1) (keyword_walks args) (settles_keyword args h.1))
    settles_expression _ h w kept = absurd h

    pub settles_object : (callee : Expression) (args : Arguments) → IsRunnable callee → ObjectGives (callee_of callee args) (object_walk callee)
    settles_object (attribute e name) args h = object_by (is_self_name e && is_empty args) name (expression_walk e) (settles_expression e h)
    settles_object _ args h = tt

    pub settles_positional : (args : Arguments) → AreRunnableArguments args → EachPassed itself (positional_walks args)
    settles_positional no_arguments h = none_passed
    settles_positional (arguments_more (positional e) args) h = alone_more (settles_expression e h.0) (settles_positional args h.1)
    settles_positional (arguments_more (positional_spread e) args) h = spread_more (settles_expression e h.0) (settles_positional args h.1)
    settles_positional (arguments_more (keyword name e) args) h = settles_positional args h.1
    settles_positional (arguments_more (keyword_spread e) args) h = settles_positional args h.1

    pub settles_keyword : (args : Arguments) → AreRunnableArguments args → EachPassed value_walk (keyword_walks args)
    settles_keyword no_arguments h = none_passed
    settles_keyword (arguments_more (keyword name e) args) h = alone_more (settles_expression e h.0) (settles_keyword args h.1)
    settles_keyword (arguments_more (keyword_spread e) args) h = spread_more (settles_expression e h.0) (settles_keyword args h.1)
    settles_keyword (arguments_more (positional e) args) h = settles_keyword args h.1
    settles_keyword (arguments_more (positional_spread e) args) h = settles_keyword args h.1

    settles_optional : (o : Optional) → IsRunnableIfGiven o → (missing : Val) → Always (λ m go. optional_walk missing o go)
    settles_optional absent h missing w kept = settles_now s w (Kept names base) missing kept
    settles_optional (given e) h missing w kept = settles_expression e h w kept

    pub settles_all : (es : Expressions) → AreRunnable es → (w : World) → Keeps names base w → Settles {O = List Val} s w (Kept names base) (λ m go. expressions_walk es go)
    settles_all no_expressions h w kept = settles_now s w (Kept names base) [] kept
    settles_all (expressions_more e es) h w kept =
        settles_then s w (Kept names base) (Kept names base) (walk_of e) (λ v m go. expressions_walk es (λ vs. go (v ∷ vs))) (settles_expression e h.0 w kept)
        (λ v x k. settles_then s x (Kept names base) (Kept names base) (λ m go. expressions_walk es go) (λ vs m go. go (v ∷ vs)) (settles_all es h.1 x k)
        (λ vs y l. settles_now s y (Kept names base) (v ∷ vs) l))

    settles_each : (es : Expressions) → AreRunnable es → EachGives (walks_of es)
    settles_each no_expressions h = none_left
    settles_each (expressions_more e es) h = each_more (settles_expression e h.0) (settles_each es h.1)

    settles_entries : (ks : Expressions) → AreRunnable ks → (walks : List ((Val → Process) → Process)) → EachGives walks → (w : World) → Keeps names base w
        → Settles {O = List (Val × Val)} s w (Kept names base) (λ m go. entries_walk ks walks go)
    settles_entries no_expressions h walks each w kept = settles_now s w (Kept names base) [] kept
    settles_entries (expressions_more key ks) h [] each w kept = settles_now s w (Kept names base) [] kept
    settles_entries (expressions_more key ks) h (walk ∷ walks) (each_more f each) w kept =
        settles_then s w (Kept names base) (Kept names base) (walk_of key) (λ u m go. walk (λ held. entries_walk ks walks (λ entries. go ((u, held) ∷ entries)))) (settles_expression key h.0 w kept)
        (λ u x k. settles_then s x (Kept names base) (Kept names base) (λ m go. walk go) (λ held m go. entries_walk ks walks (λ entries. go ((u, held) ∷ entries))) (f x k)
        (λ held y l. settles_then s y (Kept names base) (Kept names base) (λ m go. entries_walk ks walks go) (λ entries m go. go ((u, held) ∷ entries)) (settles_entries ks h.1 walks each y l)
        (λ entries z i. settles_now s z (Kept names base) ((u, held) ∷ entries) i)))

    settles_chain : (links : Links) → IsRunnableChain links → (v : Val) → Always (λ m go. chain_walk v links go)
    settles_chain no_links h v w kept = absurd h
    settles_chain (links_more op e links) h v w kept =
        given_then w (walk_of e) (λ u m go. step (asks (compare op v u) (on_value (λ holds. linked_walk u holds links go)))) (settles_expression e h.0 w kept)
        (λ u x k. given_then x (λ m go. step (asks (compare op v u) (on_value go))) (λ holds m go. linked_walk u holds links go)
        (given_by x k (compare op v u) (guarded (forbids_link s.around.undefined op v u) (kinded (compared (known_of x) op v u))) (λ n. refl))
        (λ holds. settles_linked links h.1 u holds))

    settles_linked : (links : Links) → AreRunnableLinks links → (v holds : Val) → Always (λ m go. linked_walk v holds links go)
    settles_linked no_links h v holds w kept = given_now w kept holds
    settles_linked (links_more op e links) h v holds w kept =
        decided_by w holds (λ m go. expression_walk e (λ u. step (asks (compare op v u) (on_value (λ later. linked_walk u later links go))))) (λ m go. step (go holds))
        (given_then w (walk_of e) (λ u m go. step (asks (compare op v u) (on_value (λ later. linked_walk u later links go)))) (settles_expression e h.0 w kept)
        (λ u x k. given_then x (λ m go. step (asks (compare op v u) (on_value go))) (λ later m go. linked_walk u later links go)
        (given_by x k (compare op v u) (guarded (forbids_link s.around.undefined op v u) (kinded (compared (known_of x) op v u))) (λ n. refl))
        (λ later. settles_linked links h.1 u later)))
        (given_now w kept holds)

  -- a filter of a block, over a value
  settles_filter : (name : List ℕ) (args : Arguments) → AreRunnableArguments args → (v : Val) → Always (λ m go. filter_walk name args v go)
  settles_filter name args h v =
      settles_handed (apply_filter name) (filter_named name) (λ x vs. refl) v (positional_walks args) (settles_positional args h) (keyword_walks args) (settles_keyword args h)

  -- all of them
  pub settles_filters : (filters : Expression) → AreFilters filters → (v : Val) → Always (λ m go. filters_walk filters v go)
  settles_filters (filtered name absent args) h v w kept = settles_filter name args h v w kept
  settles_filters (filtered name (given e) args) h v w kept =
      given_then w (λ m go. filters_walk e v go) (λ u m go. filter_walk name args u go) (settles_filters e h.0 v w kept) (settles_filter name args h.1)
  settles_filters _ h v w kept = absurd h
