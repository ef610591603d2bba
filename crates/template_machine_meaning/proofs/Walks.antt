-- A walk looks up used names, and what is known from a store in a frame that is still open.
use Rattle.std.proofs.Common.{◌≡◌, ◌⊎◌, ℕ, suc, ◌+◌, ◌<◌, ◌≤◌, inl, inr, Bool, true, false, List, [], ◌∷◌, ◌++◌, ◌==◌, nat_lt, length, Option, None, Some, codes, refl, sym, ap, subst, ◌∙◌, arith}
use Rattle.std.specs.Prelude.{IsTrue, not, ◌&&◌, ◌||◌, if◌then◌else◌, zero}
use Rattle.std.specs.Str.{bytes_eq}
use Rattle.std.proofs.lemmas.Bool.{or_cases, or_left, or_right}
use Rattle.std.proofs.lemmas.Bool.Decides.{nat_tests}
use Rattle.std.proofs.lemmas.Slice.Eq.{bytes_eq-Decides}
use Rattle.template_values_model.specs.Val as values
use Rattle.template_values_model.specs.Val.{Val}
use Rattle.template_compiler_tree.specs.declared.operators.UnaryOpKind.{UnaryOpKind}
use Rattle.template_compiler_tree.specs.declared.operators.UnaryOpKind.TheVariants.{Not, Neg}
use Rattle.template_compiler_tree.specs.declared.operators.BinOpKind.{BinOpKind}
use Rattle.template_compiler_tree.specs.declared.operators.BinOpKind.TheVariants.{ScAnd, ScOr}
use Rattle.template_compiler_tree.specs.Tree.{Expression, Optional, Expressions, Links, Arguments, variable, constant, slice, unary, binary, chain, conditional, attribute, item, call, filtered, tested, list_literal, tuple_literal, map_literal, absent, given, no_expressions, expressions_more, no_links, links_more, no_arguments, arguments_more, positional, keyword, positional_spread, keyword_spread, Statement, Statements, Assignments, Imports, raw, print, for_loop, if_condition, with_block, set, set_block, auto_escape, filter_block, block, import, from_import, extends, include, continue_loop, break_loop, do_call, no_statements, statements_more, no_assignments, assignments_more, no_imports, imports_more, macro, call_block}
use Rattle.template_compiler_tree.specs.Kinds.{is_self_name, is_empty}
use Rattle.template_compiler_names.proofs.Plain.{in_attribute}
use Rattle.template_compiler_names.specs.Names as imported
use Rattle.template_compiler_names.specs.Among.{Among, nothing}
use Rattle.template_compiler_names.specs.Enclosed.{is_listed, enclosed_names, encloses}
use Rattle.template_compiler_names.proofs.Enclosing.{encloses_used}
use Rattle.template_compiler_names.specs.Names.{anywhere, reversed, place_in_argument, place_in_arguments, place_in_targets, place_of_arguments, place_of_macro, stands_in, stands_if_given, stands_in_one, stands_in_links, is_stored_in, is_stored_in_one, is_used_by_target, is_used_from, is_stored_by, is_stored_everywhere, is_used_by, is_used_in}
use Rattle.template_compiler_process.specs.Process as events
use Rattle.template_compiler_process.specs.Process.{Counts, no_counts, counted_together, call_function, call_method, call_value, apply_filter, perform_test, close_frame, Looping, open_loop, close_loop, close_escape, enclose, get_closure, build_macro, store, Making, Answer, done, value, truth, items, no_item, closure, Process, over, step, asks, amiss, cut_short, on_done, on_value, on_truth, on_item, on_items, on_all, on_closure}
use Rattle.template_compiler_walk.specs.Constants.{constant_of}
use Rattle.template_compiler_walk.specs.Expressions.{folded, unary_ask, binary_walk, Giving, Passing, alone, spreads, listed, stretches_walk, mapped, entries_stretches, has_spread, merged_if, keywords_walk, run_if, passed_walk, Callee, by_name, by_method, by_block, by_value, attribute_called, callee_of, called_walk, expression_walk, object_walk, positional_walks, keyword_walks, optional_walk, expressions_walk, walks_of, entries_walk, chain_walk, linked_walk, filter_walk, filters_walk}
use Rattle.template_compiler_walk.specs.Counting.{loop_counts, caller_counts, counts_by, counts_among, MacroBody, LoopRounds, below_or, within_caller, macro_by, macro_among, macro_numbered, rounds_or, rounds_by, rounds_among, rounds_numbered}
use Rattle.template_compiler_walk.specs.Statements.{Exits, outside, closing, capture_left, capturing, number_of, target_walk, targets_walk, assignments_walk, rounds, looping_behind, kept_rounds, sifting, iterable_walk, loop_end, Printed, prints_value, prints_block, prints_super, prints_rounds, is_super_name, is_loop_name, printed_rounds, printed_by, printed_of, printed_walk, imported_names, stored_as, imports_stored, apart, past, making_of, enclosed_walk, making_walk, declared_walk, caller_name, statement_walk, statements_walk, template_walk, arguments_walk, macro_walk, rounds_walk}
use Rattle.template_compiler_walk.specs.Imported.{is_name, is_one_of, is_imported_by, is_imported}
use Rattle.template_machine_meaning.specs.Isolation.{used_of_rounds, is_used_by_rounds_of, is_used_by_rounds, IsName, AreNames, AreAllNames, ImportsNamesAt, ImportsNames}
use Rattle.template_machine_meaning.proofs.Expressions.{itself, value_walk}
use Rattle.template_machine_meaning.proofs.Known as makings
use Rattle.template_machine_meaning.proofs.Known.{Known, base, inner, IsKnown, Grows, grows_itself, grows_on, known_on, with_name, stored, closed, cleared, opened, grows_stored, knows_stored, Made, unmade, enclosed_of, Leaves, IsSafe, Within}

-- one of two, behind what holds
left_of : (a b c : Bool) → IsTrue (a && b) → IsTrue (a && (b || c))
left_of true b c h = or_left b c h
left_of false b c h = h

right_of : (a b c : Bool) → IsTrue (a && c) → IsTrue (a && (b || c))
right_of true b c h = or_right b c h
right_of false b c h = h

-- what a macro uses of the scopes in which it is made
abbrev pub used_of : Option MacroBody → Among
used_of None = nothing
used_of (Some m) = encloses m.arguments m.defaults m.body

and_right : (a b : Bool) → IsTrue (a && b) → IsTrue b
and_right true b h = h
and_right false b h = absurd (cc)

-- one of three, the first one last
moved : (a b c : Bool) → IsTrue ((a || b) || c) → IsTrue (b || (a || c))
moved a true c h = refl
moved true false c h = refl
moved false false c h = h

-- the number is in the first part, or behind it
below_first : {X : Type 0} (n mid : ℕ) (o p : Option X) → n < mid → below_or n mid o p ≡ o
below_first n mid o p h = let is : nat_lt n mid ≡ true = grind (arith, nat_tests) in ap (λ (b : Bool). if b then o else p) is

below_second : {X : Type 0} (n mid : ℕ) (o p : Option X) → mid ≤ n → below_or n mid o p ≡ p
below_second n mid o p h = let is : nat_lt n mid ≡ false = grind (arith, nat_tests) in ap (λ (b : Bool). if b then o else p) is

loop_macros : (recursive : Bool) → (loop_counts recursive).macros ≡ 0
loop_macros true = refl
loop_macros false = refl

-- there are as many, from the last to the first
many_reversed : (es behind : Expressions) → number_of (reversed es behind) ≡ number_of es + number_of behind
many_reversed no_expressions behind = let none_before : number_of behind ≡ 0 + number_of behind = omega arith in none_before
many_reversed (expressions_more e es) behind =
    let rest : number_of (reversed es (expressions_more e behind)) ≡ number_of es + suc (number_of behind) = many_reversed es (expressions_more e behind) in
    omega (arith, rest)

names_reversed : (es behind : Expressions) → AreAllNames es → AreAllNames behind → AreAllNames (reversed es behind)
names_reversed no_expressions behind are later = later
names_reversed (expressions_more e es) behind are later = names_reversed es (expressions_more e behind) are.1 (are.0, later)

module _ (names : List ℕ → Type 0) (body_of : ℕ → Option MacroBody) (start : Known) where
  abbrev uses : ℕ → Among
  uses number = used_of (body_of number)

  abbrev In : Known → Process → Type 0
  In k p = Within names uses start k unmade p

  -- each of the names is safe
  abbrev Sees : Known → (List ℕ → Bool) → Type 0
  Sees k names_of = (name : List ℕ) → IsTrue (names_of name) → IsSafe names k name

  sees_left : (k : Known) (f g : List ℕ → Bool) → Sees k (λ name. f name || g name) → Sees k f
  sees_left k f g h name i = h name (or_left (f name) (g name) i)

  sees_right : (k : Known) (f g : List ℕ → Bool) → Sees k (λ name. f name || g name) → Sees k g
  sees_right k f g h name i = h name (or_right (f name) (g name) i)

  sees_on : (k l : Known) (f : List ℕ → Bool) → Grows k l → Sees k f → Sees l f
  sees_on k l f grows h name i = elim (h name i) [ inl n ↦ inl n | inr n ↦ inr (known_on k l grows name n) ]

  -- how a process goes on at each answer
  at_done : (k : Known) (go : Process) → In k go → (a : Answer) → In k (on_done go a)
  at_done k go h done = h
  at_done k go h _ = tt

  at_value : (k : Known) (go : Val → Process) → ((v : Val) → In k (go v)) → (a : Answer) → In k (on_value go a)
  at_value k go h (value v) = h v
  at_value k go h _ = tt

  at_truth : (k : Known) (go other : Process) → In k go → In k other → (a : Answer) → In k (on_truth go other a)
  at_truth k go other h i (truth true) = h
  at_truth k go other h i (truth false) = i
  at_truth k go other h i _ = tt

  at_item : (k : Known) (go : Val → Process) (finished : Process) → ((v : Val) → In k (go v)) → In k finished → (a : Answer) → In k (on_item go finished a)
  at_item k go finished h i (events.item v) = h v
  at_item k go finished h i no_item = i
  at_item k go finished h i _ = tt

  counted : (k : Known) (go : Process) (b : Bool) → (b ≡ true → In k go) → In k (if b then go else amiss)
  counted k go true h = h refl
  counted k go false h = tt

  as_many : (n m : ℕ) → (n == m) ≡ true → n ≡ m
  as_many n m h = grind (arith, nat_tests)

  at_all : (k : Known) (go : List Val → Process) → ((vs : List Val) → In k (go vs)) → (a : Answer) → In k (on_all go a)
  at_all k go h (items vs) = h vs
  at_all k go h _ = tt

  at_items : (k : Known) (n : ℕ) (go : List Val → Process) → ((vs : List Val) → length vs ≡ n → In k (go vs)) → (a : Answer) → In k (on_items n go a)
  at_items k n go h (items vs) = counted k (go vs) (length vs == n) (λ e. h vs (as_many (length vs) n e))
  at_items k n go h _ = tt

  module _ (k : Known) where
    -- a walk that keeps to what is safe where what follows does, whatever value it is given
    abbrev Keeps : ((Val → Process) → Process) → Type 0
    Keeps walk = (go : Val → Process) → ((v : Val) → In k (go v)) → In k (walk go)

    data Each : List ((Val → Process) → Process) → Type 0 where
      none_left : Each []
      each_more : {walk : (Val → Process) → Process} {walks : List ((Val → Process) → Process)} → Keeps walk → Each walks → Each (walk ∷ walks)

    data EachPassed {X : Type 0} (walk_in : X → Giving) : List (Passing X Giving) → Type 0 where
      none_passed : EachPassed walk_in []
      alone_more : {x : X} {args : List (Passing X Giving)} → Keeps (walk_in x) → EachPassed walk_in args → EachPassed walk_in (alone x ∷ args)
      spread_more : {walk : Giving} {args : List (Passing X Giving)} → Keeps walk → EachPassed walk_in args → EachPassed walk_in (spreads walk ∷ args)

    in_folded : (o : Option Val) (go : Val → Process) (p : Process) → ((v : Val) → In k (go v)) → In k p → In k (folded o go p)
    in_folded None go p h i = i
    in_folded (Some v) go p h i = h v

    in_unary : (op : UnaryOpKind) (v : Val) → Keeps (λ go. asks (unary_ask op v) (on_value go))
    in_unary Not v go h = (tt, at_value k go h)
    in_unary Neg v go h = (tt, at_value k go h)

    in_binary : (op : BinOpKind) (left right : (Val → Process) → Process) → Keeps left → Keeps right → Keeps (binary_walk op left right)
    in_binary ScAnd left right f g go h = f _ (λ v. (tt, at_truth k (right go) (go v) (g go h) (h v)))
    in_binary ScOr left right f g go h = f _ (λ v. (tt, at_truth k (go v) (right go) (h v) (g go h)))
    in_binary op left right f g go h = f _ (λ v. g _ (λ w. (tt, at_value k go h)))

    -- the same with values in turn
    abbrev KeepsAll : ((List Val → Process) → Process) → Type 0
    KeepsAll walk = (go : List Val → Process) → ((vs : List Val) → In k (go vs)) → In k (walk go)

    in_listed : (vs : List Val) → KeepsAll (listed vs)
    in_listed [] go h = h []
    in_listed (v ∷ vs) go h = (tt, at_value k (λ list. go (list ∷ [])) (λ list. h (list ∷ [])))

    in_stretches : (vs : List Val) (args : List (Passing Giving Giving)) → EachPassed itself args → (go : List Val → List Val → Process)
        → ((lists rest : List Val) → In k (go lists rest)) → In k (stretches_walk vs args go)
    in_stretches vs [] each go h = h [] vs
    in_stretches vs (alone walk ∷ args) (alone_more f each) go h = f _ (λ v. in_stretches (vs ++ v ∷ []) args each _ h)
    in_stretches vs (spreads walk ∷ args) (spread_more f each) go h =
        in_listed vs _ (λ before. f _ (λ v. in_stretches [] args each _ (λ later rest. h (before ++ v ∷ later) rest)))

    in_mapped : (es : List (Val × Val)) → KeepsAll (mapped es)
    in_mapped [] go h = h []
    in_mapped (e ∷ es) go h = (tt, at_value k (λ map. go (map ∷ [])) (λ map. h (map ∷ [])))

    in_named : (es : List (Val × Val)) (args : List (Passing (List ℕ × Giving) Giving)) → EachPassed value_walk args → (go : List Val → List (Val × Val) → Process)
        → ((maps : List Val) (rest : List (Val × Val)) → In k (go maps rest)) → In k (entries_stretches es args go)
    in_named es [] each go h = h [] es
    in_named es (alone n ∷ args) (alone_more f each) go h = f _ (λ v. in_named (es ++ (values.text n.0, v) ∷ []) args each _ h)
    in_named es (spreads walk ∷ args) (spread_more f each) go h =
        in_mapped es _ (λ before. f _ (λ v. in_named [] args each _ (λ later rest. h (before ++ v ∷ later) rest)))

    in_merged : (several : Bool) (maps : List Val) → KeepsAll (merged_if several maps)
    in_merged false maps go h = h maps
    in_merged true maps go h = (tt, at_value k (λ map. go (map ∷ [])) (λ map. h (map ∷ [])))

    in_keywords : (named : List (Passing (List ℕ × Giving) Giving)) → EachPassed value_walk named → KeepsAll (keywords_walk named)
    in_keywords named each go h = in_named [] named each _ (λ maps rest. in_mapped rest _ (λ more. in_merged (has_spread named) (maps ++ more) go h))

    in_run : (spread_one : Bool) (lists vs : List Val) → KeepsAll (run_if spread_one lists vs)
    in_run false lists vs go h = h vs
    in_run true lists vs go h = in_listed vs _ (λ more. (tt, at_all k go h))

    in_passed : (front : List Val) (args : List (Passing Giving Giving)) → EachPassed itself args → (named : List (Passing (List ℕ × Giving) Giving)) → EachPassed value_walk named
        → KeepsAll (passed_walk front args named)
    in_passed front args each named others go h =
        in_stretches front args each _ (λ lists vs. in_keywords named others _ (λ last. in_run (has_spread args) lists (vs ++ last) go h))

    -- a name that is called is safe
    abbrev MayCall : Callee → Type 0
    MayCall (by_name name) = IsSafe names k name
    MayCall _ = Unit {0}

    in_called : (callee : Callee) → MayCall callee → (whole object : Giving) → Keeps whole → Keeps object → (args : List (Passing Giving Giving)) → EachPassed itself args
        → (named : List (Passing (List ℕ × Giving) Giving)) → EachPassed value_walk named → Keeps (called_walk callee whole object (λ front. passed_walk front args named))
    in_called (by_name name) may whole object f g args each named others go h =
        in_passed [] args each named others (λ vs. step (asks (call_function name vs) (on_value go))) (λ vs. (may, at_value k go h))
    in_called (by_method name) may whole object f g args each named others go h =
        g _ (λ v. in_passed (v ∷ []) args each named others (λ vs. step (asks (call_method name vs) (on_value go))) (λ vs. (tt, at_value k go h)))
    in_called (by_block name) may whole object f g args each named others go h =
        (tt, at_done k _ (tt, at_done k _ (tt, at_value k go h)))
    in_called by_value may whole object f g args each named others go h =
        f _ (λ v. in_passed (v ∷ []) args each named others (λ vs. step (asks (call_value vs) (on_value go))) (λ vs. (tt, at_value k go h)))

    may_call_attribute : (b : Bool) (name : List ℕ) → MayCall (attribute_called b name)
    may_call_attribute true name = tt
    may_call_attribute false name = tt

    may_call : (callee : Expression) (args : Arguments) → Sees k (λ name. stands_in name callee) → MayCall (callee_of callee args)
    may_call (variable name) args sees = sees name ((bytes_eq-Decides name name).1 refl)
    may_call (attribute e name) args sees = may_call_attribute (is_self_name e && is_empty args) name
    may_call _ args sees = tt

    mutual
      pub in_expression : (e : Expression) → Sees k (λ name. stands_in name e) → Keeps (expression_walk e)
      in_expression (variable name) sees go h = (sees name ((bytes_eq-Decides name name).1 refl), at_value k go h)
      in_expression (constant v) sees go h = h v
      in_expression (unary op e) sees go h =
          in_folded (constant_of (unary op e)) go _ h (in_expression e sees _ (λ v. in_unary op v go h))
      in_expression (binary op left right) sees go h =
          in_folded (constant_of (binary op left right)) go _ h
          (in_binary op (expression_walk left) (expression_walk right) (in_expression left (sees_left k (λ name. stands_in name left) (λ name. stands_in name right) sees))
          (in_expression right (sees_right k (λ name. stands_in name left) (λ name. stands_in name right) sees)) go h)
      in_expression (chain first links) sees go h =
          in_folded (constant_of (chain first links)) go _ h
          (in_expression first (sees_left k (λ name. stands_in name first) (λ name. stands_in_links name links) sees) _
          (λ v. in_chain links v (sees_right k (λ name. stands_in name first) (λ name. stands_in_links name links) sees) go h))
      in_expression (conditional test branch otherwise) sees go h =
          let both = sees_left k (λ name. stands_in name test || stands_in name branch) (λ name. stands_if_given name otherwise) sees in
          in_expression test (sees_left k (λ name. stands_in name test) (λ name. stands_in name branch) both) _
          (λ v. (
            tt,
            at_truth k _ _ (in_expression branch (sees_right k (λ name. stands_in name test) (λ name. stands_in name branch) both) _ (λ w. h w))
                (in_optional otherwise _ (sees_right k (λ name. stands_in name test || stands_in name branch) (λ name. stands_if_given name otherwise) sees) go h),
          ))
      in_expression (attribute e field) sees go h =
          in_expression e (λ name used. sees name (in_attribute name e field ∙ used)) _ (λ v. (tt, at_value k go h))
      in_expression (item e key) sees go h =
          in_expression e (sees_left k (λ name. stands_in name e) (λ name. stands_in name key) sees) _
          (λ v. in_expression key (sees_right k (λ name. stands_in name e) (λ name. stands_in name key) sees) _ (λ w. (tt, at_value k go h)))
      in_expression (slice e from to by) sees go h =
          let three = sees_left k (λ name. stands_in name e || stands_if_given name from || stands_if_given name to) (λ name. stands_if_given name by) sees in
          let two = sees_left k (λ name. stands_in name e || stands_if_given name from) (λ name. stands_if_given name to) three in
          in_expression e (sees_left k (λ name. stands_in name e) (λ name. stands_if_given name from) two) _
          (λ v. in_optional from _ (sees_right k (λ name. stands_in name e) (λ name. stands_if_given name from) two) _
          (λ a. in_optional to _ (sees_right k (λ name. stands_in name e || stands_if_given name from) (λ name. stands_if_given name to) three) _
          (λ b. in_optional by _ (sees_right k (λ name. stands_in name e || stands_if_given name from || stands_if_given name to) (λ name. stands_if_given name by) sees) _
          (λ c. (tt, at_value k go h)))))
      in_expression (list_literal es) sees go h = in_folded (constant_of (list_literal es)) go _ h (in_all es sees _ (λ vs. (tt, at_value k go h)))
      in_expression (tuple_literal es) sees go h = in_folded (constant_of (tuple_literal es)) go _ h (in_all es sees _ (λ vs. (tt, at_value k go h)))
      in_expression (map_literal ks vs) sees go h =
          in_folded (constant_of (map_literal ks vs)) go _ h
          (in_entries ks (walks_of vs) (sees_left k (λ name. stands_in_one name ks) (λ name. stands_in_one name vs) sees)
          (in_each vs (sees_right k (λ name. stands_in_one name ks) (λ name. stands_in_one name vs) sees)) _ (λ entries. (tt, at_value k go h)))
      in_expression (call callee args) sees go h =
          let in_callee = sees_left k (λ name. stands_in name callee) (λ name. place_in_arguments (anywhere name) args) sees in
          let in_args = sees_right k (λ name. stands_in name callee) (λ name. place_in_arguments (anywhere name) args) sees in
          in_called (callee_of callee args) (may_call callee args in_callee) (expression_walk callee) (object_walk callee) (in_expression callee in_callee) (in_object callee in_callee)
          (positional_walks args) (in_positional args in_args) (keyword_walks args) (in_keyword args in_args) go h
      in_expression (filtered name (given e) args) sees go h =
          let in_args = sees_right k (λ id. stands_in id e) (λ id. place_in_arguments (anywhere id) args) sees in
          in_expression e (sees_left k (λ id. stands_in id e) (λ id. place_in_arguments (anywhere id) args) sees) _
          (λ v. in_passed (v ∷ []) (positional_walks args) (in_positional args in_args) (keyword_walks args) (in_keyword args in_args)
          (λ vs. step (asks (apply_filter name vs) (on_value go))) (λ vs. (tt, at_value k go h)))
      in_expression (tested name e args) sees go h =
          let in_args = sees_right k (λ id. stands_in id e) (λ id. place_in_arguments (anywhere id) args) sees in
          in_expression e (sees_left k (λ id. stands_in id e) (λ id. place_in_arguments (anywhere id) args) sees) _
          (λ v. in_passed (v ∷ []) (positional_walks args) (in_positional args in_args) (keyword_walks args) (in_keyword args in_args)
          (λ vs. step (asks (perform_test name vs) (on_value go))) (λ vs. (tt, at_value k go h)))
      in_expression _ sees go h = tt

      in_object : (e : Expression) → Sees k (λ name. stands_in name e) → Keeps (object_walk e)
      in_object (attribute e field) sees go h = in_expression e (λ name used. sees name (in_attribute name e field ∙ used)) go h
      in_object _ sees go h = tt

      in_positional : (args : Arguments) → Sees k (λ name. place_in_arguments (anywhere name) args) → EachPassed itself (positional_walks args)
      in_positional no_arguments sees = none_passed
      in_positional (arguments_more (positional e) args) sees =
          alone_more (in_expression e (sees_left k (λ name. stands_in name e) (λ name. place_in_arguments (anywhere name) args) sees))
          (in_positional args (sees_right k (λ name. stands_in name e) (λ name. place_in_arguments (anywhere name) args) sees))
      in_positional (arguments_more (positional_spread e) args) sees =
          spread_more (in_expression e (sees_left k (λ name. stands_in name e) (λ name. place_in_arguments (anywhere name) args) sees))
          (in_positional args (sees_right k (λ name. stands_in name e) (λ name. place_in_arguments (anywhere name) args) sees))
      in_positional (arguments_more argument args) sees =
          in_positional args (sees_right k (λ name. place_in_argument (anywhere name) argument) (λ name. place_in_arguments (anywhere name) args) sees)

      in_keyword : (args : Arguments) → Sees k (λ name. place_in_arguments (anywhere name) args) → EachPassed value_walk (keyword_walks args)
      in_keyword no_arguments sees = none_passed
      in_keyword (arguments_more (keyword key e) args) sees =
          alone_more (in_expression e (sees_left k (λ name. stands_in name e) (λ name. place_in_arguments (anywhere name) args) sees))
          (in_keyword args (sees_right k (λ name. stands_in name e) (λ name. place_in_arguments (anywhere name) args) sees))
      in_keyword (arguments_more (keyword_spread e) args) sees =
          spread_more (in_expression e (sees_left k (λ name. stands_in name e) (λ name. place_in_arguments (anywhere name) args) sees))
          (in_keyword args (sees_right k (λ name. stands_in name e) (λ name. place_in_arguments (anywhere name) args) sees))
      in_keyword (arguments_more argument args) sees =
          in_keyword args (sees_right k (λ name. place_in_argument (anywhere name) argument) (λ name. place_in_arguments (anywhere name) args) sees)

      in_optional : (o : Optional) (missing : Val) → Sees k (λ name. stands_if_given name o) → Keeps (optional_walk missing o)
      in_optional absent missing sees go h = h missing
      in_optional (given e) missing sees go h = in_expression e sees go h

      in_all : (es : Expressions) → Sees k (λ name. stands_in_one name es) → (go : List Val → Process) → ((vs : List Val) → In k (go vs)) → In k (expressions_walk es go)
      in_all no_expressions sees go h = h []
      in_all (expressions_more e es) sees go h =
          in_expression e (sees_left k (λ name. stands_in name e) (λ name. stands_in_one name es) sees) _
          (λ v. in_all es (sees_right k (λ name. stands_in name e) (λ name. stands_in_one name es) sees) _ (λ vs. h (v ∷ vs)))

      -- there are as many as there are expressions
      in_as_many : (es : Expressions) → Sees k (λ name. stands_in_one name es) → (go : List Val → Process) → ((vs : List Val) → length vs ≡ number_of es → In k (go vs))
          → In k (expressions_walk es go)
      in_as_many no_expressions sees go h = h [] refl
      in_as_many (expressions_more e es) sees go h =
          in_expression e (sees_left k (λ name. stands_in name e) (λ name. stands_in_one name es) sees) _
          (λ v. in_as_many es (sees_right k (λ name. stands_in name e) (λ name. stands_in_one name es) sees) _ (λ vs many. h (v ∷ vs) (ap suc many)))

      in_each : (es : Expressions) → Sees k (λ name. stands_in_one name es) → Each (walks_of es)
      in_each no_expressions sees = none_left
      in_each (expressions_more e es) sees =
          each_more (in_expression e (sees_left k (λ name. stands_in name e) (λ name. stands_in_one name es) sees))
          (in_each es (sees_right k (λ name. stands_in name e) (λ name. stands_in_one name es) sees))

      in_entries : (ks : Expressions) (walks : List ((Val → Process) → Process)) → Sees k (λ name. stands_in_one name ks) → Each walks
          → (go : List (Val × Val) → Process) → ((entries : List (Val × Val)) → In k (go entries)) → In k (entries_walk ks walks go)
      in_entries no_expressions walks sees each go h = h []
      in_entries (expressions_more e ks) [] sees each go h = h []
      in_entries (expressions_more e ks) (walk ∷ walks) sees (each_more f each) go h =
          in_expression e (sees_left k (λ name. stands_in name e) (λ name. stands_in_one name ks) sees) _
          (λ key. f _ (λ held. in_entries ks walks (sees_right k (λ name. stands_in name e) (λ name. stands_in_one name ks) sees) each _ (λ entries. h ((key, held) ∷ entries))))

      in_chain : (links : Links) (v : Val) → Sees k (λ name. stands_in_links name links) → Keeps (chain_walk v links)
      in_chain no_links v sees go h = tt
      in_chain (links_more op e links) v sees go h =
          in_expression e (sees_left k (λ name. stands_in name e) (λ name. stands_in_links name links) sees) _
          (λ w. (tt, at_value k _ (λ holds. in_linked links w holds (sees_right k (λ name. stands_in name e) (λ name. stands_in_links name links) sees) go h)))

      in_linked : (links : Links) (v holds : Val) → Sees k (λ name. stands_in_links name links) → Keeps (linked_walk v holds links)
      in_linked no_links v holds sees go h = h holds
      in_linked (links_more op e links) v holds sees go h = (
        tt,
        at_truth k _ _
            (in_expression e (sees_left k (λ name. stands_in name e) (λ name. stands_in_links name links) sees) _
            (λ w. (tt, at_value k _ (λ later. in_linked links w later (sees_right k (λ name. stands_in name e) (λ name. stands_in_links name links) sees) go h))))
            (h holds),
      )

    -- a filter of a block, and all of them
    in_filter : (name : List ℕ) (args : Arguments) (v : Val) → Sees k (λ id. place_in_arguments (anywhere id) args) → Keeps (filter_walk name args v)
    in_filter name args v sees go h =
        in_passed (v ∷ []) (positional_walks args) (in_positional args sees) (keyword_walks args) (in_keyword args sees)
        (λ vs. step (asks (apply_filter name vs) (on_value go))) (λ vs. (tt, at_value k go h))

    in_filters : (filters : Expression) → Sees k (λ name. stands_in name filters) → (v : Val) → Keeps (filters_walk filters v)
    in_filters (filtered name absent args) sees v go h = in_filter name args v sees go h
    in_filters (filtered name (given e) args) sees v go h =
        in_filters e (sees_left k (λ id. stands_in id e) (λ id. place_in_arguments (anywhere id) args) sees) v _
        (λ w. in_filter name args w (sees_right k (λ id. stands_in id e) (λ id. place_in_arguments (anywhere id) args) sees) go h)
    in_filters _ sees v go h = tt

    -- the call of a call block: what its body is made is one keyword more
    each_behind : (named : List (Passing (List ℕ × Giving) Giving)) (id : List ℕ) (walk : Giving) → EachPassed value_walk named → Keeps walk
        → EachPassed value_walk (named ++ alone (id, walk) ∷ [])
    each_behind [] id walk each keeps = alone_more keeps none_passed
    each_behind (alone n ∷ named) id walk (alone_more f each) keeps = alone_more f (each_behind named id walk each keeps)
    each_behind (spreads one ∷ named) id walk (spread_more f each) keeps = spread_more f (each_behind named id walk each keeps)

    -- a block is called without it
    abbrev KeepsCaller : Callee → Giving → Type 0
    KeepsCaller (by_block name) caller = Unit {0}
    KeepsCaller _ caller = Keeps caller

    in_calling : (c : Callee) → MayCall c → (callee : Expression) (passed : Arguments) (caller : Giving) → Sees k (λ name. stands_in name callee)
        → Sees k (λ name. place_in_arguments (anywhere name) passed) → KeepsCaller c caller
        → Keeps (called_walk c (expression_walk callee) (object_walk callee)
        (λ front. passed_walk front (positional_walks passed) (keyword_walks passed ++ alone (caller_name, caller) ∷ [])))
    in_calling (by_block name) may callee passed caller in_callee in_args keeps go h = (tt, at_done k _ (tt, at_done k _ (tt, at_value k go h)))
    in_calling (by_name name) may callee passed caller in_callee in_args keeps go h =
        in_called (by_name name) may (expression_walk callee) (object_walk callee) (in_expression callee in_callee) (in_object callee in_callee)
        (positional_walks passed) (in_positional passed in_args) (keyword_walks passed ++ alone (caller_name, caller) ∷ [])
        (each_behind (keyword_walks passed) caller_name caller (in_keyword passed in_args) keeps) go h
    in_calling (by_method name) may callee passed caller in_callee in_args keeps go h =
        in_called (by_method name) may (expression_walk callee) (object_walk callee) (in_expression callee in_callee) (in_object callee in_callee)
        (positional_walks passed) (in_positional passed in_args) (keyword_walks passed ++ alone (caller_name, caller) ∷ [])
        (each_behind (keyword_walks passed) caller_name caller (in_keyword passed in_args) keeps) go h
    in_calling by_value may callee passed caller in_callee in_args keeps go h =
        in_called by_value may (expression_walk callee) (object_walk callee) (in_expression callee in_callee) (in_object callee in_callee)
        (positional_walks passed) (in_positional passed in_args) (keyword_walks passed ++ alone (caller_name, caller) ∷ [])
        (each_behind (keyword_walks passed) caller_name caller (in_keyword passed in_args) keeps) go h

  -- what stays within, whatever more is known
  abbrev Stays : Known → Process → Type 0
  Stays k go = (l : Known) → Grows k l → In l go

  -- the same once each of the names is known
  abbrev Goes : Known → (List ℕ → Bool) → Process → Type 0
  Goes k names_of go = (l : Known) → Grows k l → ((name : List ℕ) → IsTrue (names_of name) → IsKnown l name) → In l go

  stays_on : (k l : Known) (go : Process) → Grows k l → Stays k go → Stays l go
  stays_on k l go grows h m more = h m (grows_on k l m grows more)

  nothing_stored : (k : Known) (go : Process) → Goes k (λ name. false) go → Stays k go
  nothing_stored k go h l grows = h l grows (λ name e. absurd (cc))

  safe_on : (k l : Known) → Grows k l → (name : List ℕ) → IsSafe names k name → IsSafe names l name
  safe_on k l grows name (inl n) = inl n
  safe_on k l grows name (inr n) = inr (known_on k l grows name n)

  unless : (k l : Known) (name : List ℕ) (b c : Bool) → Grows k l → (b ≡ true → IsSafe names l name) → (IsTrue (not b && c) → IsSafe names k name) → IsTrue c → IsSafe names l name
  unless k l name true c grows kept sees used = kept refl
  unless k l name false c grows kept sees used = safe_on k l grows name (sees used)

  -- behind a store
  sees_behind : (k l : Known) (f g : List ℕ → Bool) → Grows k l → ((name : List ℕ) → IsTrue (f name) → IsKnown l name) → Sees k (λ name. not (f name) && g name) → Sees l g
  sees_behind k l f g grows knows sees name used = unless k l name (f name) (g name) grows (λ e. inr (knows name e)) (sees name) used

  -- in another frame
  sees_inner : (k : Known) (f : List ℕ → Bool) → Sees k f → Sees (opened k) f
  sees_inner k f sees name used = elim (sees name used) [ inl n ↦ inl n | inr n ↦ inr (inr n) ]

  mutual
    in_target : (target : Expression) (v : Val) (k : Known) (go : Process) → Sees k (λ name. is_used_by_target name target) → Goes k (λ name. is_stored_in name target) go
        → In k (target_walk target v go)
    in_target (variable id) v k go sees h = (tt, at_done (stored id k) go (h (stored id k) (grows_stored id k) (λ name e. knows_stored id k name e)))
    in_target (attribute e field) v k go sees h =
        in_expression k e (λ name used. sees name (in_attribute name e field ∙ used)) _ (λ holder. (tt, at_done k go (nothing_stored k go h k (grows_itself k))))
    in_target (list_literal targets) v k go sees h = (tt, at_items k (number_of targets) _ (λ vs many. in_targets targets vs k go many sees h))
    in_target _ v k go sees h = tt

    in_targets : (targets : Expressions) (vs : List Val) (k : Known) (go : Process) → length vs ≡ number_of targets → Sees k (λ name. place_in_targets (anywhere name) targets)
        → Goes k (λ name. is_stored_in_one name targets) go → In k (targets_walk targets vs go)
    in_targets no_expressions vs k go many sees h = nothing_stored k go h k (grows_itself k)
    in_targets (expressions_more target targets) [] k go many sees h = absurd (omega (arith, many))
    in_targets (expressions_more target targets) (v ∷ vs) k go many sees h =
        let first : List ℕ → Bool = λ name. is_used_by_target name target in
        let others : List ℕ → Bool = λ name. place_in_targets (anywhere name) targets in
        let later : List ℕ → Bool = λ name. not (is_stored_in name target) && others name in
        in_target target v k _ (sees_left k first later sees)
        (λ l grows knows. in_targets targets vs l go (omega (arith, many)) (sees_behind k l (λ name. is_stored_in name target) others grows knows (sees_right k first later sees))
        (λ m more stored_later. h m (grows_on k l m grows more)
        (λ name e. elim (or_cases (is_stored_in name target) (is_stored_in_one name targets) e) [ inl i ↦ known_on l m more name (knows name i) | inr i ↦ stored_later name i ])))

  -- what is imported, from the last to the first
  imported_one : (k l : Known) (e : Expression) (alias : Optional) (more : Imports) → Grows k l → ((name : List ℕ) → IsTrue (imported.is_imported name more) → IsKnown k name)
      → ((name : List ℕ) → IsTrue (is_stored_in name (stored_as e alias)) → IsKnown l name)
      → (name : List ℕ) → IsTrue (imported.is_imported name (imports_more e alias more)) → IsKnown l name
  imported_one k l e absent more grows later here name i =
      elim (or_cases (is_stored_in name e) (imported.is_imported name more) i) [ inl own ↦ here name own | inr other ↦ known_on k l grows name (later name other) ]
  imported_one k l e (given alias) more grows later here name i =
      elim (or_cases (is_stored_in name alias) (imported.is_imported name more) i) [ inl own ↦ here name own | inr other ↦ known_on k l grows name (later name other) ]

  sees_no_target : (k : Known) (e : Expression) → IsName e → Sees k (λ name. is_used_by_target name e)
  sees_no_target k (variable id) is name used = absurd (cc)
  sees_no_target k _ is name used = absurd is

  sees_no_alias : (k : Known) (e : Expression) (alias : Optional) (more : Imports) → AreNames (imports_more e alias more) → Sees k (λ name. is_used_by_target name (stored_as e alias))
  sees_no_alias k e absent more are = sees_no_target k e are.0
  sees_no_alias k e (given alias) more are = sees_no_target k alias are.1

  more_names : (e : Expression) (alias : Optional) (more : Imports) → AreNames (imports_more e alias more) → AreNames more
  more_names e absent more are = are.1
  more_names e (given alias) more are = are.2

  in_imports : (imports : Imports) → AreNames imports → (vs : List Val) (k : Known) (go : Process) → length vs ≡ number_of (imported_names imports)
      → Goes k (λ name. imported.is_imported name imports) go → In k (imports_stored imports vs go)
  in_imports no_imports are vs k go many h = nothing_stored k go h k (grows_itself k)
  in_imports (imports_more e alias more) are [] k go many h = absurd (omega (arith, many))
  in_imports (imports_more e alias more) are (v ∷ vs) k go many h =
      in_imports more (more_names e alias more are) vs k _ (omega (arith, many))
      (λ l grows knows. in_target (stored_as e alias) v l go (sees_no_alias l e alias more are)
      (λ m wider here. h m (grows_on k l m grows wider) (imported_one l m e alias more wider knows here)))

  -- a name that is imported is looked up
  is_that_name : (k : Known) (e : Expression) → IsName e → Sees k (λ name. is_name name e) → Sees k (λ name. stands_in name e)
  is_that_name k (variable id) is sees name used = sees name used
  is_that_name k _ is sees name used = absurd is

  first_name : (e : Expression) (alias : Optional) (more : Imports) → AreNames (imports_more e alias more) → IsName e
  first_name e absent more are = are.0
  first_name e (given alias) more are = are.0

  sees_imported : (k : Known) (imports : Imports) → AreNames imports → Sees k (λ name. is_one_of name imports) → Sees k (λ name. stands_in_one name (imported_names imports))
  sees_imported k no_imports are sees name used = absurd (cc)
  sees_imported k (imports_more e alias more) are sees name used =
      elim (or_cases (stands_in name e) (stands_in_one name (imported_names more)) used) [
        | inl own ↦ is_that_name k e (first_name e alias more are) (sees_left k (λ id. is_name id e) (λ id. is_one_of id more) sees) name own
        | inr other ↦ sees_imported k more (more_names e alias more are) (sees_right k (λ id. is_name id e) (λ id. is_one_of id more) sees) name other
      ]

  in_assignments : (assignments : Assignments) (k : Known) (go : Process) (follows : List ℕ → Bool) → Sees k (λ name. is_used_from name assignments (follows name))
      → ((l : Known) → Grows k l → Sees l follows → In l go) → In k (assignments_walk assignments go)
  in_assignments no_assignments k go follows sees h = h k (grows_itself k) sees
  in_assignments (assignments_more target e more) k go follows sees h =
      let first : List ℕ → Bool = λ name. stands_in name e || is_used_by_target name target in
      let later : List ℕ → Bool = λ name. not (is_stored_in name target) && is_used_from name more (follows name) in
      in_expression k e (sees_left k (λ name. stands_in name e) (λ name. is_used_by_target name target) (sees_left k first later sees)) _
      (λ v. in_target target v k _ (sees_right k (λ name. stands_in name e) (λ name. is_used_by_target name target) (sees_left k first later sees)) (λ l grows knows.
      in_assignments more l go follows (sees_behind k l (λ name. is_stored_in name target) (λ name. is_used_from name more (follows name)) grows knows (sees_right k first later sees))
      (λ m wider. h m (grows_on k l m grows wider))))

  -- a frame that was opened is closed
  in_close_frame : (k l : Known) (go : Process) → Grows (opened k) l → Stays k go → In l (asks close_frame (on_done go))
  in_close_frame k (base ids) go grows h = absurd grows
  in_close_frame k (inner b ids l) go grows h = (tt, at_done l go (h l grows.2))

  in_close_loop : (k l : Known) (go : Process) → Grows (opened k) l → Stays k go → In l (asks close_loop (on_done go))
  in_close_loop k (base ids) go grows h = absurd grows
  in_close_loop k (inner true ids l) go grows h = let other : false ≡ true = grows.0 in absurd (cc)
  in_close_loop k (inner false ids l) go grows h = ((tt, tt), at_done l go (h l grows.2))

  in_open_loop : (k : Known) (how : Looping) (v : Val) (go : Process) → Stays (opened k) go → Stays k (asks (open_loop how v) (on_done go))
  in_open_loop k how v go h l grows = (tt, at_done (opened l) go (h (opened l) (refl, λ name i. i, grows)))

  -- the ways out
  abbrev Leads : Known → Exits → Type 0
  Leads k x = Stays k x.on_break × Stays k x.on_continue

  leads_on : (k l : Known) (x : Exits) → Grows k l → Leads k x → Leads l x
  leads_on k l x grows h = (stays_on k l x.on_break grows h.0, stays_on k l x.on_continue grows h.1)

  closing_frame : (k l : Known) (x : Exits) → Grows (opened k) l → Leads k x → Leads l (closing close_frame x)
  closing_frame k l x grows h =
      (λ m more. in_close_frame k m x.on_break (grows_on (opened k) l m grows more) h.0, λ m more. in_close_frame k m x.on_continue (grows_on (opened k) l m grows more) h.1)

  in_close_escape : (k : Known) (go : Process) → Stays k go → Stays k (asks close_escape (on_done go))
  in_close_escape k go h l grows = (tt, at_done l go (h l grows))

  closing_escape : (k : Known) (x : Exits) → Leads k x → Leads k (closing close_escape x)
  closing_escape k x h = (in_close_escape k x.on_break h.0, in_close_escape k x.on_continue h.1)

  in_capture_left : (k : Known) (go : Process) → Stays k go → Stays k (capture_left go)
  in_capture_left k go h l grows = (tt, at_value l _ (λ text. h l grows))

  capturing_body : (k : Known) (x : Exits) → Leads k x → Leads k (capturing x)
  capturing_body k x h = (in_capture_left k x.on_break h.0, in_capture_left k x.on_continue h.1)

  -- a frame of rounds in front
  abbrev rounds_frame : Bool → Known → Known
  rounds_frame b k = inner b nothing k

  -- a round, where a loop's frame is open around what is known
  abbrev Turns : Bool → Known → (Val → Exits → Process → Process) → Type 0
  Turns b k round = (l : Known) → Grows (rounds_frame b k) l → (v : Val) (x : Exits) (again : Process) → Leads (rounds_frame b k) x → Stays (rounds_frame b k) again → In l (round v x again)

  grows_cleared : (b : Bool) (k l : Known) → Grows (rounds_frame b k) l → Grows (rounds_frame b k) (cleared l)
  grows_cleared b k (base ids) grows = absurd grows
  grows_cleared b k (inner c ids l) grows = (grows.0, λ name i. i, grows.2)

  in_rounds : (n : ℕ) (b : Bool) (k : Known) (round : Val → Exits → Process → Process) (finished : Process) → Turns b k round → Stays (rounds_frame b k) finished
      → Stays (rounds_frame b k) (rounds n round finished)
  in_rounds zero b k round finished turns h l grows = tt
  in_rounds (suc n) b k round finished turns h l grows =
      let again : Stays (rounds_frame b k) (step (rounds n round finished)) = λ m more. in_rounds n b k round finished turns h m more in
      (tt, at_item (cleared l) _ finished (λ v. turns (cleared l) (grows_cleared b k l grows) v _ _ (h, again) again) (h (cleared l) (grows_cleared b k l grows)))

  -- the rounds that gather what a condition keeps
  in_kept : (n : ℕ) (k : Known) (target condition : Expression) (kept : List Val) (finished : List Val → Process)
      → Sees (opened k) (λ name. is_used_by_target name target) → Sees (opened k) (λ name. not (is_stored_in name target) && stands_in name condition)
      → ((vs : List Val) → Stays (opened k) (finished vs)) → Stays (opened k) (kept_rounds n (sifting target condition) kept finished)
  in_kept zero k target condition kept finished holders sees h l grows = tt
  in_kept (suc n) k target condition kept finished holders sees h l grows =
      let begun = grows_cleared false k l grows in
      let item : List ℕ → Bool = λ name. is_stored_in name target in
      let tests : List ℕ → Bool = λ name. stands_in name condition in (
        tt,
        at_item (cleared l) _ (finished kept)
            (λ v. in_target target v (cleared l) _ (sees_on (opened k) (cleared l) (λ name. is_used_by_target name target) begun holders)
            (λ m more knows.
            let further = grows_on (opened k) (cleared l) m begun more in
            in_expression m condition (sees_behind (cleared l) m item tests more knows (sees_on (opened k) (cleared l) (λ name. not (item name) && tests name) begun sees)) _
            (λ c. (tt, at_truth m _ _ (in_kept n k target condition (kept ++ v ∷ []) finished holders sees h m further) (in_kept n k target condition kept finished holders sees h m further)))))
            (h kept (cleared l) begun),
      )

  -- what a loop goes over
  in_iterable : (n : ℕ) (target e : Expression) (condition : Optional) (k : Known) (go : Val → Process) → Sees k (λ name. stands_in name e)
      → Sees k (λ name. is_used_by_target name target) → Sees k (λ name. not (is_stored_in name target) && stands_if_given name condition)
      → ((v : Val) → Stays k (go v)) → In k (iterable_walk n target e condition go)
  in_iterable n target e absent k go sees holders tests h = in_expression k e sees go (λ v. h v k (grows_itself k))
  in_iterable n target e (given condition) k go sees holders tests h = (
    tt,
    at_all k _
        (λ none_yet. in_expression k e sees _
        (λ v. (
          tt,
          at_done (opened k) _
              (in_kept n k target condition none_yet _ (sees_inner k (λ name. is_used_by_target name target) holders)
              (sees_inner k (λ name. not (is_stored_in name target) && stands_in name condition) tests)
              (λ vs l grows. in_close_loop k l _ grows (λ m more. (tt, at_value m _ (λ made. h made m more))))
              (opened k) (grows_itself (opened k))),
        ))),
  )

  -- one of two parts, behind a store
  part_left : (k : Known) (f g h : List ℕ → Bool) → Sees k (λ name. not (f name) && (g name || h name)) → Sees k (λ name. not (f name) && g name)
  part_left k f g h sees name used = sees name (left_of (not (f name)) (g name) (h name) used)

  part_right : (k : Known) (f g h : List ℕ → Bool) → Sees k (λ name. not (f name) && (g name || h name)) → Sees k (λ name. not (f name) && h name)
  part_right k f g h sees name used = sees name (right_of (not (f name)) (g name) (h name) used)

  in_end : (otherwise : Statements) (k : Known) (p go : Process) → Stays k p → Stays k go → Stays (opened k) (loop_end otherwise p go)
  in_end no_statements k p go h i l grows = in_close_loop k l go grows i
  in_end (statements_more _ _) k p go h i l grows =
      (tt, at_value l _ (λ flag. in_close_loop k l _ grows (λ m more. (tt, at_truth m p go (h m more) (i m more)))))

  in_past : (otherwise : Statements) (k : Known) (go : Process) → Stays k go → Stays k (past otherwise go)
  in_past no_statements k go h = h
  in_past (statements_more _ _) k go h = h

  -- where macros are found by their numbers
  abbrev Numbers : (ℕ → Option MacroBody) → ℕ → ℕ → Type 0
  Numbers f from many = (n : ℕ) → from ≤ n → n < from + many → f n ≡ body_of n

  numbers_left : (f g : ℕ → Option MacroBody) (from a b : ℕ) → Numbers (λ n. below_or n (from + a) (f n) (g n)) from (a + b) → Numbers f from a
  numbers_left f g from a b h n low high =
      let more : n < from + (a + b) = omega (arith, high) in
      sym (below_first n (from + a) (f n) (g n) high) ∙ h n low more

  numbers_right : (f g : ℕ → Option MacroBody) (from a b : ℕ) → Numbers (λ n. below_or n (from + a) (f n) (g n)) from (a + b) → Numbers g (from + a) b
  numbers_right f g from a b h n low high =
      let less : from ≤ n = omega (arith, low) in
      let more : n < from + (a + b) = omega (arith, high) in
      sym (below_second n (from + a) (f n) (g n) low) ∙ h n less more

  -- behind a loop, which is no macro
  numbers_in_loop : (f g : ℕ → Option MacroBody) (from z a b : ℕ) → z ≡ 0 → Numbers (λ n. below_or n ((from + z) + a) (f n) (g n)) from (z + (a + b)) → Numbers f (from + z) a
  numbers_in_loop f g from z a b none h n low high =
      let less : from ≤ n = omega (arith, low) in
      let more : n < from + (z + (a + b)) = omega (arith, high) in
      sym (below_first n ((from + z) + a) (f n) (g n) high) ∙ h n less more

  numbers_past_loop : (f g : ℕ → Option MacroBody) (from z a b : ℕ) → z ≡ 0 → Numbers (λ n. below_or n ((from + z) + a) (f n) (g n)) from (z + (a + b)) → Numbers g ((from + z) + a) b
  numbers_past_loop f g from z a b none h n low high =
      let less : from ≤ n = omega (arith, low) in
      let more : n < from + (z + (a + b)) = omega (arith, high) in
      sym (below_second n ((from + z) + a) (f n) (g n) low) ∙ h n less more

  -- a macro is behind those in its body
  own_number : (f : ℕ → Option MacroBody) (from a : ℕ) (m : MacroBody) → Numbers (λ n. below_or n (from + a) (f n) (Some m)) from (a + 1) → body_of (from + a) ≡ Some m
  own_number f from a m h =
      let low : from ≤ from + a = omega arith in
      let same : from + a ≤ from + a = omega arith in
      let high : from + a < from + (a + 1) = omega arith in
      sym (h (from + a) low high) ∙ below_second (from + a) (from + a) (f (from + a)) (Some m) same

  -- each imported name is among the names, and is a name; and the macros are those that are found by their numbers
  abbrev Takes : Counts → Statement → Type 0
  Takes first st = ((name : List ℕ) → IsTrue (is_imported_by name st) → names name) × ImportsNamesAt st × Numbers (λ n. macro_by n first st) first.macros (counts_by st).macros

  abbrev TakesAll : Counts → Statements → Type 0
  TakesAll first ss = ((name : List ℕ) → IsTrue (is_imported name ss) → names name) × ImportsNames ss × Numbers (λ n. macro_among n first ss) first.macros (counts_among ss).macros

  takes_left : (f g : List ℕ → Bool) → ((name : List ℕ) → IsTrue (f name || g name) → names name) → (name : List ℕ) → IsTrue (f name) → names name
  takes_left f g takes name i = takes name (or_left (f name) (g name) i)

  takes_right : (f g : List ℕ → Bool) → ((name : List ℕ) → IsTrue (f name || g name) → names name) → (name : List ℕ) → IsTrue (g name) → names name
  takes_right f g takes name i = takes name (or_right (f name) (g name) i)

  -- what stands in a statement takes as much
  in_if : (first : Counts) (e : Expression) (body otherwise : Statements) → Takes first (if_condition e body otherwise) → TakesAll first body
  in_if first e body otherwise takes = (
    takes_left (λ name. is_imported name body) (λ name. is_imported name otherwise) takes.0,
    takes.1.0,
    numbers_left (λ n. macro_among n first body) (λ n. macro_among n (counted_together first (counts_among body)) otherwise) first.macros (counts_among body).macros (counts_among otherwise).macros takes.2,
  )

  in_else : (first : Counts) (e : Expression) (body otherwise : Statements) → Takes first (if_condition e body otherwise) → TakesAll (counted_together first (counts_among body)) otherwise
  in_else first e body otherwise takes = (
    takes_right (λ name. is_imported name body) (λ name. is_imported name otherwise) takes.0,
    takes.1.1,
    numbers_right (λ n. macro_among n first body) (λ n. macro_among n (counted_together first (counts_among body)) otherwise) first.macros (counts_among body).macros (counts_among otherwise).macros takes.2,
  )

  abbrev behind_loop : Counts → Bool → Counts
  behind_loop first recursive = counted_together first (loop_counts recursive)

  in_loop : (first : Counts) (target e : Expression) (condition : Optional) (recursive : Bool) (body otherwise : Statements) → Takes first (for_loop target e condition recursive body otherwise)
      → TakesAll (behind_loop first recursive) body
  in_loop first target e condition recursive body otherwise takes = (
    takes_left (λ name. is_imported name body) (λ name. is_imported name otherwise) takes.0,
    takes.1.0,
    numbers_in_loop (λ n. macro_among n (behind_loop first recursive) body) (λ n. macro_among n (counted_together (behind_loop first recursive) (counts_among body)) otherwise)
        first.macros (loop_counts recursive).macros (counts_among body).macros (counts_among otherwise).macros (loop_macros recursive) takes.2,
  )

  past_loop : (first : Counts) (target e : Expression) (condition : Optional) (recursive : Bool) (body otherwise : Statements) → Takes first (for_loop target e condition recursive body otherwise)
      → TakesAll (counted_together (behind_loop first recursive) (counts_among body)) otherwise
  past_loop first target e condition recursive body otherwise takes = (
    takes_right (λ name. is_imported name body) (λ name. is_imported name otherwise) takes.0,
    takes.1.1,
    numbers_past_loop (λ n. macro_among n (behind_loop first recursive) body) (λ n. macro_among n (counted_together (behind_loop first recursive) (counts_among body)) otherwise)
        first.macros (loop_counts recursive).macros (counts_among body).macros (counts_among otherwise).macros (loop_macros recursive) takes.2,
  )

  first_takes : (first : Counts) (s : Statement) (ss : Statements) → TakesAll first (statements_more s ss) → Takes first s
  first_takes first s ss takes = (
    takes_left (λ name. is_imported_by name s) (λ name. is_imported name ss) takes.0,
    takes.1.0,
    numbers_left (λ n. macro_by n first s) (λ n. macro_among n (counted_together first (counts_by s)) ss) first.macros (counts_by s).macros (counts_among ss).macros takes.2,
  )

  others_take : (first : Counts) (s : Statement) (ss : Statements) → TakesAll first (statements_more s ss) → TakesAll (counted_together first (counts_by s)) ss
  others_take first s ss takes = (
    takes_right (λ name. is_imported_by name s) (λ name. is_imported name ss) takes.0,
    takes.1.1,
    numbers_right (λ n. macro_by n first s) (λ n. macro_among n (counted_together first (counts_by s)) ss) first.macros (counts_by s).macros (counts_among ss).macros takes.2,
  )

  -- what a macro takes: its parameters are names
  record MacroTakes (m : MacroBody) : Type 0 where
    all : TakesAll m.first m.body
    parameters : AreAllNames m.arguments

  -- and the rounds of a loop, whose names are among the names
  record RoundsTake (r : LoopRounds) : Type 0 where
    all : TakesAll r.first r.body
    used : (name : List ℕ) → IsTrue (used_of_rounds name r.target (is_used_in name r.body)) → names name

  macro_inside : (first : Counts) (arguments defaults : Expressions) (body : Statements) → Numbers (λ n. below_or n (first.macros + (counts_among body).macros) (macro_among n first body)
      (Some (record { arguments = arguments; defaults = defaults; body = body; first = first }))) first.macros ((counts_among body).macros + 1)
      → Numbers (λ n. macro_among n first body) first.macros (counts_among body).macros
  macro_inside first arguments defaults body h =
      numbers_left (λ n. macro_among n first body) (λ n. Some (record { arguments = arguments; defaults = defaults; body = body; first = first })) first.macros (counts_among body).macros 1 h

  -- behind the events that make a macro
  done_in : (k : Known) (m : Made) (go : Process) → Within names uses start k m go → (a : Answer) → Within names uses start k m (on_done go a)
  done_in k m go h done = h
  done_in k m go h _ = tt

  in_enclosed : (ids : List (List ℕ)) (k : Known) (m : Made) (go : Process) → ((id : List ℕ) → IsTrue (is_listed ids id) → IsSafe names k id)
      → ((n : Made) → ((id : List ℕ) → IsTrue (is_listed ids id || enclosed_of m id) → IsTrue (enclosed_of n id)) → Within names uses start k n go)
      → Within names uses start k m (enclosed_walk ids go)
  in_enclosed [] k m go safe h = h m (λ id i. i)
  in_enclosed (name ∷ ids) k m go safe h = (
    safe name (or_left (bytes_eq name name) (is_listed ids name) ((bytes_eq-Decides name name).1 refl)),
    done_in k (makings.enclosing (with_name name (enclosed_of m))) (enclosed_walk ids go)
        (in_enclosed ids k (makings.enclosing (with_name name (enclosed_of m))) go (λ id i. safe id (or_right (bytes_eq name id) (is_listed ids id) i))
        (λ n grown. h n (λ id i. grown id (moved (bytes_eq name id) (is_listed ids id) (enclosed_of m id) i)))),
  )

  at_closure : (k : Known) (m : Made) (making : Making) (go : Val → Process) → ((name : List ℕ) → IsTrue (uses making.number name) → IsTrue (enclosed_of m name)) → ((v : Val) → In k (go v))
      → (a : Answer) → Within names uses start k (makings.made m get_closure a) (on_closure (λ c. asks (build_macro making c) (on_value go)) a)
  at_closure k m making go has h (closure c) = ((refl, has), at_value k go h)
  at_closure k m making go has h _ = tt

  in_making : (k : Known) (making : Making) (ids : List (List ℕ)) (go : Val → Process) → ((id : List ℕ) → IsTrue (is_listed ids id) → IsSafe names k id)
      → ((name : List ℕ) → IsTrue (uses making.number name) → IsTrue (is_listed ids name)) → ((v : Val) → In k (go v)) → In k (making_walk making ids go)
  in_making k making ids go safe has h =
      in_enclosed ids k unmade (step (asks get_closure (on_closure (λ c. asks (build_macro making c) (on_value go))))) safe
      (λ n grown. (tt, at_closure k n making go (λ name i. grown name (or_left (is_listed ids name) false (has name i))) h))

  in_declared : (first : Counts) (name : List ℕ) (arguments defaults : Expressions) (body : Statements) (k : Known)
      → body_of (first.macros + (counts_among body).macros) ≡ Some (record { arguments = arguments; defaults = defaults; body = body; first = first })
      → Sees k (λ id. place_of_macro (anywhere id) arguments defaults (is_used_in id body)) → (go : Val → Process) → ((v : Val) → In k (go v)) → In k (declared_walk first name arguments defaults body go)
  in_declared first name arguments defaults body k found sees go h =
      in_making k (making_of first name arguments defaults body) (enclosed_names arguments defaults body) go
      (λ id i. sees id (and_right (not (is_stored_everywhere id)) (place_of_macro (anywhere id) arguments defaults (is_used_in id body)) (sym (encloses_used arguments defaults body id) ∙ i)))
      (λ id i. encloses_used arguments defaults body id ∙ subst (λ (o : Option MacroBody). IsTrue (used_of o id)) found i) h

  -- parameters are stored from the last to the first, each behind its default
  in_parameters : (targets defaults : Expressions) (vs : List Val) (k : Known) (go : Process) (follows : List ℕ → Bool) → AreAllNames targets → length vs ≡ number_of targets
      → Sees k (λ name. place_of_arguments (anywhere name) targets defaults (follows name)) → ((l : Known) → Grows k l → Sees l follows → In l go) → In k (arguments_walk targets defaults vs go)
  in_parameters no_expressions defaults vs k go follows are many sees h = h k (grows_itself k) sees
  in_parameters (expressions_more target targets) defaults [] k go follows are many sees h = absurd (omega (arith, many))
  in_parameters (expressions_more target targets) no_expressions (v ∷ vs) k go follows are many sees h =
      let rest : List ℕ → Bool = λ name. place_of_arguments (anywhere name) targets no_expressions (follows name) in
      in_target target v k _ (sees_no_target k target are.0)
      (λ l grows knows. in_parameters targets no_expressions vs l go follows are.1 (omega (arith, many)) (sees_behind k l (λ name. is_stored_in name target) rest grows knows sees)
      (λ m wider. h m (grows_on k l m grows wider)))
  in_parameters (expressions_more target targets) (expressions_more default defaults) (v ∷ vs) k go follows are many sees h =
      let rest : List ℕ → Bool = λ name. place_of_arguments (anywhere name) targets defaults (follows name) in
      let later : List ℕ → Bool = λ name. not (is_stored_in name target) && rest name in
      let given_one = sees_left k (λ name. stands_in name default) later sees in
      let behind = sees_right k (λ name. stands_in name default) later sees in
      let goes : (u : Val) → In k (target_walk target u (arguments_walk targets defaults vs go)) = λ u.
      in_target target u k _ (sees_no_target k target are.0)
      (λ l grows knows. in_parameters targets defaults vs l go follows are.1 (omega (arith, many)) (sees_behind k l (λ name. is_stored_in name target) rest grows knows behind)
      (λ m wider. h m (grows_on k l m grows wider))) in
      (tt, at_truth k _ _ (in_expression k default given_one _ goes) (goes v))

  module _ (loop_is : (name : List ℕ) → IsTrue (bytes_eq name (codes "loop")) → names name) where
    -- in the body of a loop
    sees_body : (k : Known) (f : List ℕ → Bool) → Sees k (λ name. not (bytes_eq name (codes "loop")) && f name) → Sees k f
    sees_body k f sees name used = unless k k name (bytes_eq name (codes "loop")) (f name) (grows_itself k) (λ e. inl (loop_is name e)) (sees name) used

    -- what is printed: a value, what a block writes by itself, or what the rounds of a loop write
    abbrev PrintsSafe : Known → Printed → Type 0
    PrintsSafe k (prints_rounds e) = Sees k (λ name. stands_in name e)
    PrintsSafe k _ = Unit {0}

    rounds_safe : (k : Known) (args : Arguments) → Sees k (λ name. place_in_arguments (anywhere name) args) → PrintsSafe k (printed_rounds args)
    rounds_safe k (arguments_more (positional e) no_arguments) sees = sees_left k (λ name. stands_in name e) (λ name. false) sees
    rounds_safe k _ sees = tt

    chosen_safe : (k : Known) (b c : Bool) (args : Arguments) → Sees k (λ name. place_in_arguments (anywhere name) args)
        → PrintsSafe k (if b then prints_super else if c then printed_rounds args else prints_value)
    chosen_safe k true c args sees = tt
    chosen_safe k false true args sees = rounds_safe k args sees
    chosen_safe k false false args sees = tt

    callee_safe : (k : Known) (callee : Callee) (args : Arguments) → Sees k (λ name. place_in_arguments (anywhere name) args) → PrintsSafe k (printed_by callee args)
    callee_safe k (by_name name) args sees = chosen_safe k (is_super_name name && is_empty args) (is_loop_name name) args sees
    callee_safe k (by_block name) args sees = tt
    callee_safe k (by_method name) args sees = tt
    callee_safe k by_value args sees = tt

    printed_safe : (k : Known) (e : Expression) → Sees k (λ name. stands_in name e) → PrintsSafe k (printed_of e)
    printed_safe k (call callee args) sees =
        callee_safe k (callee_of callee args) args (sees_right k (λ name. stands_in name callee) (λ name. place_in_arguments (anywhere name) args) sees)
    printed_safe k _ sees = tt

    in_printed : (p : Printed) (e : Expression) (k : Known) (go : Process) → PrintsSafe k p → Sees k (λ name. stands_in name e) → In k go → In k (printed_walk p (expression_walk e) go)
    in_printed prints_value e k go safe sees h = in_expression k e sees _ (λ v. (tt, at_done k go h))
    in_printed (prints_block name) e k go safe sees h = (tt, at_done k go h)
    in_printed prints_super e k go safe sees h = (tt, at_done k go h)
    in_printed (prints_rounds rounds_over) e k go safe sees h = in_expression k rounds_over safe _ (λ v. (tt, at_done k go h))

    -- a template runs in a frame of its own
    in_apart : (k : Known) (e : Expression) (go : Process) → Sees k (λ name. stands_in name e) → In (opened k) go → In k (apart e go)
    in_apart k e go sees h =
        (tt, at_done (opened k) _ (in_expression (opened k) e (sees_inner k (λ name. stands_in name e) sees) _ (λ v. (tt, at_done (opened k) go h))))

    keeps_caller : (k : Known) (c : Callee) (first : Counts) (arguments defaults : Expressions) (body : Statements)
        → Numbers (λ n. within_caller c (below_or n (first.macros + (counts_among body).macros) (macro_among n first body)
        (Some (record { arguments = arguments; defaults = defaults; body = body; first = first })))) first.macros (caller_counts c (counts_among body)).macros
        → Sees k (λ id. place_of_macro (anywhere id) arguments defaults (is_used_in id body)) → KeepsCaller k c (declared_walk first caller_name arguments defaults body)
    keeps_caller k (by_block name) first arguments defaults body numbered sees = tt
    keeps_caller k (by_name name) first arguments defaults body numbered sees =
        in_declared first caller_name arguments defaults body k (own_number (λ n. macro_among n first body) first.macros (counts_among body).macros _ numbered) sees
    keeps_caller k (by_method name) first arguments defaults body numbered sees =
        in_declared first caller_name arguments defaults body k (own_number (λ n. macro_among n first body) first.macros (counts_among body).macros _ numbered) sees
    keeps_caller k by_value first arguments defaults body numbered sees =
        in_declared first caller_name arguments defaults body k (own_number (λ n. macro_among n first body) first.macros (counts_among body).macros _ numbered) sees

    mutual
      in_statement : (n : ℕ) (first : Counts) (s : Statement) → Takes first s → (k : Known) (x : Exits) (go : Process) → Sees k (λ name. is_used_by name s) → Leads k x → Goes k (λ name. is_stored_by name s) go → In k (statement_walk n first s x go)
      in_statement n first (raw text) takes k x go sees leads h = (tt, at_done k go (nothing_stored k go h k (grows_itself k)))
      in_statement n first (print e) takes k x go sees leads h = in_printed (printed_of e) e k go (printed_safe k e sees) sees (nothing_stored k go h k (grows_itself k))
      in_statement n first (for_loop target e condition recursive body otherwise) takes k x go sees leads h =
          let after : Stays k go = nothing_stored k go h in
          let item : List ℕ → Bool = λ name. is_stored_in name target in
          let tests : List ℕ → Bool = λ name. stands_if_given name condition in
          let inside : List ℕ → Bool = λ name. not (bytes_eq name (codes "loop")) && is_used_in name body in
          let within : List ℕ → Bool = λ name. tests name || inside name in
          let head : List ℕ → Bool = λ name. stands_in name e || is_used_by_target name target in
          let most : List ℕ → Bool = λ name. head name || not (item name) && within name in
          let sees_most = sees_left k most (λ name. is_used_in name otherwise) sees in
          let sees_within = sees_right k head (λ name. not (item name) && within name) sees_most in
          let sees_round = sees_inner k (λ name. not (item name) && inside name) (part_right k item tests inside sees_within) in
          let holds : List ℕ → Bool = λ name. is_used_by_target name target in
          let sees_head = sees_left k head (λ name. not (item name) && within name) sees_most in
          let sees_holders = sees_right k (λ name. stands_in name e) holds sees_head in
          in_iterable n target e condition k _ (sees_left k (λ name. stands_in name e) holds sees_head) sees_holders (part_left k item tests inside sees_within)
          (λ v. in_open_loop k (looping_behind recursive first) v _
          (in_rounds n false k _ _
          (λ l grows v y again out back. in_target target v l _ (sees_on (opened k) l holds grows (sees_inner k holds sees_holders)) (λ m more knows.
          in_statements n (behind_loop first recursive) body (in_loop first target e condition recursive body otherwise takes) m y again
          (sees_body m (λ name. is_used_in name body) (sees_behind l m item inside more knows (sees_on (opened k) l (λ name. not (item name) && inside name) grows sees_round)))
          (leads_on (opened k) m y (grows_on (opened k) l m grows more) out)
          (stays_on (opened k) m again (grows_on (opened k) l m grows more) back)))
          (in_end otherwise k _ go
          (λ l grows. in_statements n (counted_together (behind_loop first recursive) (counts_among body)) otherwise (past_loop first target e condition recursive body otherwise takes) l x go (sees_on k l (λ name. is_used_in name otherwise) grows (sees_right k most (λ name. is_used_in name otherwise) sees)) (leads_on k l x grows leads) (stays_on k l go grows after))
          after)))
      in_statement n first (if_condition e body otherwise) takes k x go sees leads h =
          let after : Stays k go = nothing_stored k go h in
          let head : List ℕ → Bool = λ name. stands_in name e || is_used_in name body in
          let sees_head = sees_left k head (λ name. is_used_in name otherwise) sees in
          in_expression k e (sees_left k (λ name. stands_in name e) (λ name. is_used_in name body) sees_head) _
          (λ v. (
            tt,
            at_truth k _ _
                (in_statements n first body (in_if first e body otherwise takes) k x _ (sees_right k (λ name. stands_in name e) (λ name. is_used_in name body) sees_head) leads (in_past otherwise k go after))
                (in_statements n (counted_together first (counts_among body)) otherwise (in_else first e body otherwise takes) k x go (sees_right k head (λ name. is_used_in name otherwise) sees) leads after),
          ))
      in_statement n first (with_block assignments body) takes k x go sees leads h = (
        tt,
        at_done (opened k) _
            (in_assignments assignments (opened k) _ (λ name. is_used_in name body) (sees_inner k (λ name. is_used_from name assignments (is_used_in name body)) sees)
            (λ l grows inside. in_statements n first body takes l (closing close_frame x) _ inside (closing_frame k l x grows leads)
            (λ m more. in_close_frame k m go (grows_on (opened k) l m grows more) (nothing_stored k go h)))),
      )
      in_statement n first (set target e) takes k x go sees leads h =
          let value_of : List ℕ → Bool = λ name. stands_in name e in
          let holds : List ℕ → Bool = λ name. is_used_by_target name target in
          in_expression k e (sees_left k value_of holds sees) _ (λ v. in_target target v k go (sees_right k value_of holds sees) h)
      in_statement n first (set_block target absent body) takes k x go sees leads h =
          let filters : List ℕ → Bool = λ name. stands_if_given name absent in
          let holds : List ℕ → Bool = λ name. is_used_by_target name target in
          let sees_body = sees_left k (λ name. is_used_in name body) filters (sees_left k (λ name. is_used_in name body || filters name) holds sees) in
          let sees_holders = sees_right k (λ name. is_used_in name body || filters name) holds sees in (
            tt,
            at_done k _
                (in_statements n first body takes k (capturing x) _ sees_body (capturing_body k x leads)
                (λ l grows. (tt, at_value l _ (λ text. in_target target text l go (sees_on k l holds grows sees_holders) (λ m more knows. h m (grows_on k l m grows more) knows))))),
          )
      in_statement n first (set_block target (given filters) body) takes k x go sees leads h =
          let passed : List ℕ → Bool = λ name. stands_in name filters in
          let holds : List ℕ → Bool = λ name. is_used_by_target name target in
          let sees_most = sees_left k (λ name. is_used_in name body || passed name) holds sees in
          let sees_filters = sees_right k (λ name. is_used_in name body) passed sees_most in
          let sees_holders = sees_right k (λ name. is_used_in name body || passed name) holds sees in (
            tt,
            at_done k _
                (in_statements n first body takes k (capturing x) _ (sees_left k (λ name. is_used_in name body) passed sees_most) (capturing_body k x leads)
                (λ l grows. (
                  tt,
                  at_value l _
                      (λ text. in_filters l filters (sees_on k l passed grows sees_filters) text _
                      (λ v. in_target target v l go (sees_on k l holds grows sees_holders) (λ m more knows. h m (grows_on k l m grows more) knows))),
                ))),
          )
      in_statement n first (filter_block filters body) takes k x go sees leads h =
          let passed : List ℕ → Bool = λ name. stands_in name filters in (
            tt,
            at_done k _
                (in_statements n first body takes k (capturing x) _ (sees_left k (λ name. is_used_in name body) passed sees) (capturing_body k x leads)
                (λ l grows. (
                  tt,
                  at_value l _
                      (λ text. in_filters l filters (sees_on k l passed grows (sees_right k (λ name. is_used_in name body) passed sees)) text _
                      (λ v. (tt, at_done l go (nothing_stored k go h l grows)))),
                ))),
          )
      in_statement n first (auto_escape e body) takes k x go sees leads h =
          in_expression k e (sees_left k (λ name. stands_in name e) (λ name. is_used_in name body) sees) _
          (λ v. (
            tt,
            at_done k _
                (in_statements n first body takes k (closing close_escape x) _ (sees_right k (λ name. stands_in name e) (λ name. is_used_in name body) sees) (closing_escape k x leads)
                (in_close_escape k go (nothing_stored k go h))),
          ))
      in_statement n first (block name required body) takes k x go sees leads h = (tt, at_done k go (nothing_stored k go h k (grows_itself k)))
      in_statement n first (import e target) takes k x go sees leads h =
          let value_of : List ℕ → Bool = λ name. stands_in name e in
          let holds : List ℕ → Bool = λ name. is_used_by_target name target in (
            tt,
            at_done k _
                (in_apart k e _ (sees_left k value_of holds sees) (
                  tt,
                  at_value (opened k) _
                      (λ text. (
                        tt,
                        at_value (opened k) _
                            (λ m. in_close_frame k (opened k) _ (grows_itself (opened k))
                            (λ l grows. in_target target m l go (sees_on k l holds grows (sees_right k value_of holds sees))
                            (λ wide wider knows. h wide (grows_on k l wide grows wider) knows))),
                      )),
                )),
          )
      in_statement n first (from_import e imports) takes k x go sees leads h = (
        tt,
        at_done k _
            (in_apart k e _ sees
            (in_as_many (opened k) (imported_names imports) (sees_imported (opened k) imports takes.1 (λ name used. inl (takes.0 name used))) _
            (λ vs many. in_close_frame k (opened k) _ (grows_itself (opened k))
            (λ l grows. in_imports imports takes.1 vs l _ many
            (λ wide wider knows. (tt, at_value wide _ (λ dropped. h wide (grows_on k l wide grows wider) knows))))))),
      )
      in_statement n first (extends e) takes k x go sees leads h = in_expression k e sees _ (λ v. (tt, at_done k go (nothing_stored k go h k (grows_itself k))))
      in_statement n first (include e ignore_missing) takes k x go sees leads h = in_expression k e sees _ (λ v. (tt, at_done k go (nothing_stored k go h k (grows_itself k))))
      in_statement n first (do_call callee args) takes k x go sees leads h = in_expression k (call callee args) sees _ (λ v. nothing_stored k go h k (grows_itself k))
      in_statement n first continue_loop takes k x go sees leads h = leads.1 k (grows_itself k)
      in_statement n first break_loop takes k x go sees leads h = leads.0 k (grows_itself k)
      in_statement n first (macro id arguments defaults body) takes k x go sees leads h =
          in_declared first id arguments defaults body k (own_number (λ n. macro_among n first body) first.macros (counts_among body).macros _ takes.2) sees _
          (λ v. (tt, at_done (stored id k) go (h (stored id k) (grows_stored id k) (λ name e. knows_stored id k name e))))
      in_statement n first (call_block callee passed arguments defaults body) takes k x go sees leads h =
          let of_callee : List ℕ → Bool = λ name. stands_in name callee in
          let of_args : List ℕ → Bool = λ name. place_in_arguments (anywhere name) passed in
          let of_body : List ℕ → Bool = λ name. place_of_macro (anywhere name) arguments defaults (is_used_in name body) in
          let both = sees_left k (λ name. of_callee name || of_args name) of_body sees in
          let in_callee = sees_left k of_callee of_args both in
          in_calling k (callee_of callee passed) (may_call k callee passed in_callee) callee passed (declared_walk first caller_name arguments defaults body) in_callee (sees_right k of_callee of_args both)
          (keeps_caller k (callee_of callee passed) first arguments defaults body takes.2 (sees_right k (λ name. of_callee name || of_args name) of_body sees)) _
          (λ v. (tt, at_done k go (nothing_stored k go h k (grows_itself k))))
      in_statement n first _ takes k x go sees leads h = tt

      in_statements : (n : ℕ) (first : Counts) (ss : Statements) → TakesAll first ss → (k : Known) (x : Exits) (go : Process) → Sees k (λ name. is_used_in name ss) → Leads k x → Stays k go → In k (statements_walk n first ss x go)
      in_statements n first no_statements takes k x go sees leads h = h k (grows_itself k)
      in_statements n first (statements_more s ss) takes k x go sees leads h =
          let later : List ℕ → Bool = λ name. not (is_stored_by name s) && is_used_in name ss in
          in_statement n first s (first_takes first s ss takes) k x _ (sees_left k (λ name. is_used_by name s) later sees) leads
          (λ l grows knows. in_statements n (counted_together first (counts_by s)) ss (others_take first s ss takes) l x go
          (sees_behind k l (λ name. is_stored_by name s) (λ name. is_used_in name ss) grows knows (sees_right k (λ name. is_used_by name s) later sees))
          (leads_on k l x grows leads) (stays_on k l go grows h))

    -- the macro of a number takes what it has to, and so do the rounds of a loop
    abbrev MacroIn : Option MacroBody → Type 0
    MacroIn o = (m : MacroBody) → o ≡ Some m → MacroTakes m

    macro_or : (b : Bool) (o p : Option MacroBody) → MacroIn o → MacroIn p → MacroIn (if b then o else p)
    macro_or true o p f g = f
    macro_or false o p f g = g

    macro_itself : (m : MacroBody) → MacroTakes m → MacroIn (Some m)
    macro_itself m takes other e = let same : m ≡ other = cc in subst MacroTakes same takes

    macro_caller : (c : Callee) (first : Counts) (arguments defaults : Expressions) (body : Statements) (n : ℕ) → (TakesAll first body → MacroIn (macro_among n first body))
        → ((name : List ℕ) → IsTrue (is_imported name body) → names name) → AreAllNames arguments × ImportsNames body
        → Numbers (λ n. within_caller c (below_or n (first.macros + (counts_among body).macros) (macro_among n first body)
        (Some (record { arguments = arguments; defaults = defaults; body = body; first = first })))) first.macros (caller_counts c (counts_among body)).macros
        → MacroIn (within_caller c (below_or n (first.macros + (counts_among body).macros) (macro_among n first body)
        (Some (record { arguments = arguments; defaults = defaults; body = body; first = first }))))
    macro_caller (by_block name) first arguments defaults body n found imported are numbered = λ m e. absurd (cc)
    macro_caller (by_name name) first arguments defaults body n found imported are numbered =
        let all : TakesAll first body = (imported, are.1, macro_inside first arguments defaults body numbered) in
        let own : MacroBody = record { arguments = arguments; defaults = defaults; body = body; first = first } in
        macro_or (nat_lt n (first.macros + (counts_among body).macros)) (macro_among n first body) (Some own) (found all) (macro_itself own (record { all = all; parameters = are.0 }))
    macro_caller (by_method name) first arguments defaults body n found imported are numbered =
        let all : TakesAll first body = (imported, are.1, macro_inside first arguments defaults body numbered) in
        let own : MacroBody = record { arguments = arguments; defaults = defaults; body = body; first = first } in
        macro_or (nat_lt n (first.macros + (counts_among body).macros)) (macro_among n first body) (Some own) (found all) (macro_itself own (record { all = all; parameters = are.0 }))
    macro_caller by_value first arguments defaults body n found imported are numbered =
        let all : TakesAll first body = (imported, are.1, macro_inside first arguments defaults body numbered) in
        let own : MacroBody = record { arguments = arguments; defaults = defaults; body = body; first = first } in
        macro_or (nat_lt n (first.macros + (counts_among body).macros)) (macro_among n first body) (Some own) (found all) (macro_itself own (record { all = all; parameters = are.0 }))

    mutual
      macro_found_by : (n : ℕ) (first : Counts) (s : Statement) → Takes first s → MacroIn (macro_by n first s)
      macro_found_by n first (for_loop target e condition recursive body otherwise) takes =
          macro_or (nat_lt n ((behind_loop first recursive).macros + (counts_among body).macros)) _ _
          (macro_found n (behind_loop first recursive) body (in_loop first target e condition recursive body otherwise takes))
          (macro_found n (counted_together (behind_loop first recursive) (counts_among body)) otherwise (past_loop first target e condition recursive body otherwise takes))
      macro_found_by n first (if_condition e body otherwise) takes =
          macro_or (nat_lt n (first.macros + (counts_among body).macros)) _ _ (macro_found n first body (in_if first e body otherwise takes))
          (macro_found n (counted_together first (counts_among body)) otherwise (in_else first e body otherwise takes))
      macro_found_by n first (with_block _ body) takes = macro_found n first body takes
      macro_found_by n first (set_block target filters body) takes = macro_found n first body takes
      macro_found_by n first (auto_escape e body) takes = macro_found n first body takes
      macro_found_by n first (filter_block filters body) takes = macro_found n first body takes
      macro_found_by n first (macro id arguments defaults body) takes =
          let all : TakesAll first body = (takes.0, takes.1.1, macro_inside first arguments defaults body takes.2) in
          let own : MacroBody = record { arguments = arguments; defaults = defaults; body = body; first = first } in
          macro_or (nat_lt n (first.macros + (counts_among body).macros)) (macro_among n first body) (Some own) (macro_found n first body all) (macro_itself own (record { all = all; parameters = takes.1.0 }))
      macro_found_by n first (call_block callee passed arguments defaults body) takes =
          macro_caller (callee_of callee passed) first arguments defaults body n (macro_found n first body) takes.0 takes.1 takes.2
      macro_found_by n first _ takes = λ m e. absurd (cc)

      macro_found : (n : ℕ) (first : Counts) (ss : Statements) → TakesAll first ss → MacroIn (macro_among n first ss)
      macro_found n first no_statements takes = λ m e. absurd (cc)
      macro_found n first (statements_more s ss) takes =
          macro_or (nat_lt n (first.macros + (counts_by s).macros)) _ _ (macro_found_by n first s (first_takes first s ss takes))
          (macro_found n (counted_together first (counts_by s)) ss (others_take first s ss takes))

    abbrev RoundsIn : Option LoopRounds → Type 0
    RoundsIn o = (r : LoopRounds) → o ≡ Some r → RoundsTake r

    rounds_or_else : (b : Bool) (o p : Option LoopRounds) → RoundsIn o → RoundsIn p → RoundsIn (if b then o else p)
    rounds_or_else true o p f g = f
    rounds_or_else false o p f g = g

    -- those that rounds use by themselves
    abbrev Listed : (List ℕ → Bool) → Type 0
    Listed f = (name : List ℕ) → IsTrue (f name) → names name

    rounds_own : (recursive : Bool) (n : ℕ) (first : Counts) (own : LoopRounds) (inner_ones : Option LoopRounds) → TakesAll own.first own.body
        → Listed (λ name. recursive && used_of_rounds name own.target (is_used_in name own.body)) → RoundsIn inner_ones → RoundsIn (rounds_or recursive n first own inner_ones)
    rounds_own false n first own inner_ones all used found = found
    rounds_own true n first own inner_ones all used found =
        rounds_or_else (n == first.rounds) (Some own) inner_ones
        (λ other e. let same : own ≡ other = cc in subst RoundsTake same (record { all = all; used = used })) found

    rounds_caller : (c : Callee) (first : Counts) (arguments defaults : Expressions) (body : Statements) (n : ℕ) → (TakesAll first body → RoundsIn (rounds_among n first body))
        → ((name : List ℕ) → IsTrue (is_imported name body) → names name) → AreAllNames arguments × ImportsNames body
        → Numbers (λ n. within_caller c (below_or n (first.macros + (counts_among body).macros) (macro_among n first body)
        (Some (record { arguments = arguments; defaults = defaults; body = body; first = first })))) first.macros (caller_counts c (counts_among body)).macros
        → RoundsIn (within_caller c (rounds_among n first body))
    rounds_caller (by_block name) first arguments defaults body n found imported are numbered = λ r e. absurd (cc)
    rounds_caller (by_name name) first arguments defaults body n found imported are numbered = found (imported, are.1, macro_inside first arguments defaults body numbered)
    rounds_caller (by_method name) first arguments defaults body n found imported are numbered = found (imported, are.1, macro_inside first arguments defaults body numbered)
    rounds_caller by_value first arguments defaults body n found imported are numbered = found (imported, are.1, macro_inside first arguments defaults body numbered)

    mutual
      rounds_found_by : (n : ℕ) (first : Counts) (s : Statement) → Takes first s → Listed (λ name. is_used_by_rounds_of name s) → RoundsIn (rounds_by n first s)
      rounds_found_by n first (for_loop target e condition recursive body otherwise) takes own_names =
          let own : List ℕ → Bool = λ name. recursive && used_of_rounds name target (is_used_in name body) in
          let within : List ℕ → Bool = λ name. is_used_by_rounds name body in
          let later : List ℕ → Bool = λ name. is_used_by_rounds name otherwise in
          let most : Listed (λ name. own name || within name) = takes_left (λ name. own name || within name) later own_names in
          let all = in_loop first target e condition recursive body otherwise takes in
          rounds_own recursive n first (record { target = target; body = body; otherwise = otherwise; first = behind_loop first recursive }) _ all (takes_left own within most)
          (rounds_or_else (nat_lt n ((behind_loop first recursive).rounds + (counts_among body).rounds)) _ _ (rounds_found n (behind_loop first recursive) body all (takes_right own within most))
          (rounds_found n (counted_together (behind_loop first recursive) (counts_among body)) otherwise (past_loop first target e condition recursive body otherwise takes)
          (takes_right (λ name. own name || within name) later own_names)))
      rounds_found_by n first (if_condition e body otherwise) takes own_names =
          rounds_or_else (nat_lt n (first.rounds + (counts_among body).rounds)) _ _
          (rounds_found n first body (in_if first e body otherwise takes) (takes_left (λ name. is_used_by_rounds name body) (λ name. is_used_by_rounds name otherwise) own_names))
          (rounds_found n (counted_together first (counts_among body)) otherwise (in_else first e body otherwise takes)
          (takes_right (λ name. is_used_by_rounds name body) (λ name. is_used_by_rounds name otherwise) own_names))
      rounds_found_by n first (with_block _ body) takes own_names = rounds_found n first body takes own_names
      rounds_found_by n first (set_block target filters body) takes own_names = rounds_found n first body takes own_names
      rounds_found_by n first (auto_escape e body) takes own_names = rounds_found n first body takes own_names
      rounds_found_by n first (filter_block filters body) takes own_names = rounds_found n first body takes own_names
      rounds_found_by n first (macro id arguments defaults body) takes own_names =
          rounds_found n first body (takes.0, takes.1.1, macro_inside first arguments defaults body takes.2) own_names
      rounds_found_by n first (call_block callee passed arguments defaults body) takes own_names =
          rounds_caller (callee_of callee passed) first arguments defaults body n (λ all. rounds_found n first body all own_names) takes.0 takes.1 takes.2
      rounds_found_by n first _ takes own_names = λ r e. absurd (cc)

      rounds_found : (n : ℕ) (first : Counts) (ss : Statements) → TakesAll first ss → Listed (λ name. is_used_by_rounds name ss) → RoundsIn (rounds_among n first ss)
      rounds_found n first no_statements takes own_names = λ r e. absurd (cc)
      rounds_found n first (statements_more s ss) takes own_names =
          rounds_or_else (nat_lt n (first.rounds + (counts_by s).rounds)) _ _
          (rounds_found_by n first s (first_takes first s ss takes) (takes_left (λ name. is_used_by_rounds_of name s) (λ name. is_used_by_rounds name ss) own_names))
          (rounds_found n (counted_together first (counts_by s)) ss (others_take first s ss takes) (takes_right (λ name. is_used_by_rounds_of name s) (λ name. is_used_by_rounds name ss) own_names))

module _ (names : List ℕ → Type 0) (loop_is : (name : List ℕ) → IsTrue (bytes_eq name (codes "loop")) → names name) (tree : Statements)
    (taken : (name : List ℕ) → IsTrue (is_imported name tree) → names name) (are : ImportsNames tree) where
  abbrev body_at : ℕ → Option MacroBody
  body_at number = macro_numbered number tree

  abbrev pub used_at : ℕ → Among
  used_at number = used_of (body_at number)

  all_taken : (start : Known) → TakesAll names body_at start no_counts tree
  all_taken start = (taken, are, λ n low high. refl)

  -- a template, from what is known on
  pub template_within : (n : ℕ) → ((name : List ℕ) → IsTrue (is_used_in name tree) → names name) → (k : Known) → Within names used_at k k unmade (template_walk n tree)
  template_within n used k =
      in_statements names body_at k loop_is n no_counts tree (all_taken k) k outside (over []) (λ name u. inl (used name u)) (λ l grows. tt, λ l grows. tt) (λ l grows. grows)

  -- what a macro's parameters and its body use, its closure has, or it is given
  either_safe : (N : Type 0) (b c x : Bool) → (b ≡ true → N) → (c ≡ true → N) → IsTrue x → N ⊎ IsTrue (not b && (not c && x))
  either_safe N true c x f g h = inl (f refl)
  either_safe N false true x f g h = inl (g refl)
  either_safe N false false x f g h = inr h

  macro_safe : ((name : List ℕ) → IsTrue (is_stored_everywhere name) → names name) → ((name : List ℕ) → IsTrue (bytes_eq name (codes "caller")) → names name)
      → (number : ℕ) (m : MacroBody) → body_at number ≡ Some m → (name : List ℕ)
      → IsTrue (place_of_arguments (anywhere name) (reversed m.arguments no_expressions) (reversed m.defaults no_expressions) (is_used_in name m.body))
      → IsSafe names (base (used_at number)) name
  macro_safe everywhere_is caller_is number m found name used =
      let x = place_of_arguments (anywhere name) (reversed m.arguments no_expressions) (reversed m.defaults no_expressions) (is_used_in name m.body) in
      elim (either_safe (names name) (is_stored_everywhere name) (bytes_eq name (codes "caller")) x (everywhere_is name) (caller_is name) used) [
        | inl n ↦ inl n
        | inr i ↦ inr (subst (λ (o : Option MacroBody). IsTrue (used_of o name)) (sym found) i)
      ]

  -- a macro, from where its closure has what it uses
  pub macro_within : ((name : List ℕ) → IsTrue (is_stored_everywhere name) → names name) → ((name : List ℕ) → IsTrue (bytes_eq name (codes "caller")) → names name)
      → (n number : ℕ) (m : MacroBody) → body_at number ≡ Some m → (vs : List Val) → (number_of m.arguments == length vs) ≡ true
      → Within names used_at (base (used_at number)) (base (used_at number)) unmade (macro_walk n m vs)
  macro_within everywhere_is caller_is n number m found vs many =
      let k = base (used_at number) in
      let takes = macro_found names body_at k loop_is number no_counts tree (all_taken k) m found in
      let count : length vs ≡ number_of (reversed m.arguments no_expressions) =
      let same : number_of m.arguments ≡ length vs = as_many names body_at k (number_of m.arguments) (length vs) many in
      let all : number_of (reversed m.arguments no_expressions) ≡ number_of m.arguments + 0 = many_reversed m.arguments no_expressions in
      omega (arith, same, all) in
      in_parameters names body_at k (reversed m.arguments no_expressions) (reversed m.defaults no_expressions) vs k _ (λ name. is_used_in name m.body)
      (names_reversed m.arguments no_expressions takes.parameters tt) count
      (λ name used. macro_safe everywhere_is caller_is number m found name used)
      (λ l grows sees. in_statements names body_at k loop_is n m.first m.body takes.all l outside (over []) sees (λ o wider. tt, λ o wider. tt) (λ o wider. grows_on k l o grows wider))

  -- the end of rounds that were called: the answer to the closing of their frame ends the run
  called_end : (otherwise : Statements) (k l : Known) → Grows (inner true nothing k) l → Within names used_at (inner true nothing k) l unmade (loop_end otherwise cut_short cut_short)
  called_end otherwise k (base f) grows = absurd grows
  called_end otherwise k (inner false f l) grows = let other : true ≡ false = grows.0 in absurd (cc)
  called_end no_statements k (inner true f l) grows = ((tt, grows), at_done names body_at (inner true nothing k) l cut_short tt)
  called_end (statements_more s ss) k (inner true f l) grows =
      let start = inner true nothing k in
      (tt, at_value names body_at start (inner true f l) _ (λ flag. ((tt, grows), at_done names body_at start l _ (tt, at_truth names body_at start l cut_short cut_short tt tt))))

  round_safe : (N K : Type 0) (a holds loop used : Bool) → (holds ≡ true → K) → (loop ≡ true → N) → (IsTrue (a || (not holds && (not loop && used))) → N) → IsTrue used → N ⊎ K
  round_safe N K a true loop used f g h i = inr (f refl)
  round_safe N K a false true used f g h i = inl (g refl)
  round_safe N K a false false used f g h i = inl (h (or_right a used i))

  -- and the rounds of a loop that are called
  pub rounds_within : ((name : List ℕ) → IsTrue (is_used_by_rounds name tree) → names name) → (n number : ℕ) (r : LoopRounds) → rounds_numbered number tree ≡ Some r → (k : Known)
      → Within names used_at (inner true nothing k) (inner true nothing k) unmade (rounds_walk n r)
  rounds_within own_names n number r found k =
      let start = inner true nothing k in
      let takes = rounds_found names body_at start loop_is number no_counts tree (all_taken start) own_names r found in
      in_rounds names body_at start n true k (λ item exits again. target_walk r.target item (statements_walk n r.first r.body exits again)) (loop_end r.otherwise cut_short cut_short)
      (λ l grows v y again out back.
      in_target names body_at start r.target v l _
      (λ name used. inl (takes.used name (or_left (is_used_by_target name r.target) (not (is_stored_in name r.target) && (not (bytes_eq name (codes "loop")) && is_used_in name r.body)) used)))
      (λ m more knows.
      in_statements names body_at start loop_is n r.first r.body takes.all m y again
      (λ name used. round_safe (names name) (IsKnown m name) (is_used_by_target name r.target) (is_stored_in name r.target) (bytes_eq name (codes "loop")) (is_used_in name r.body)
      (knows name) (loop_is name) (takes.used name) used)
      (leads_on names body_at start start m y (grows_on start l m grows more) out)
      (stays_on names body_at start start m again (grows_on start l m grows more) back)))
      (λ l grows. called_end r.otherwise k l grows) start (grows_itself start)
