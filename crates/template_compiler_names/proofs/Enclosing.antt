-- The names that a macro encloses are listed: form by form what is told of a name by tests is told of it by the lists.
use Rattle.std.proofs.Common.{◌≡◌, ℕ, Bool, true, false, cond, not, ◌&&◌, ◌||◌, List, [], ◌∷◌, ◌++◌, bytes_eq, refl, sym, ap, ◌∙◌}
use Rattle.std.specs.List.{filter}
use Rattle.std.specs.Ordering.{is_eq, nat_cmp, match_ordering}
use Rattle.std.specs.declared.cmp.Ordering.{Ordering}
use Rattle.std.specs.declared.cmp.Ordering.TheVariants.{Less, Equal, Greater}
use Rattle.std.specs.Cmp.Lexicographic.{slice_cmp}
use Rattle.std.specs.BTreeSet.{insert_key}
use Rattle.std.proofs.lemmas.List.Folds.{list_any-append}
use Rattle.std.proofs.lemmas.Map.Text.{is_eq-slice_cmp}
use Rattle.std.proofs.lemmas.Slice.Eq.{bytes_eq-Decides}
use Rattle.template_compiler_tree.specs.Tree.{Expression, Optional, Expressions, Links, Arguments, Argument, variable, constant, slice, unary, binary, chain, conditional, filtered, tested, attribute, item, call, list_literal, tuple_literal, map_literal, absent, given, no_expressions, expressions_more, no_links, links_more, no_arguments, arguments_more, positional, keyword, positional_spread, keyword_spread, Statement, Statements, Assignments, template, raw, print, for_loop, if_condition, with_block, set, set_block, auto_escape, filter_block, block, import, from_import, extends, include, macro, call_block, continue_loop, break_loop, do_call, no_statements, statements_more, no_assignments, assignments_more}
use Rattle.template_compiler_names.specs.Among.{Among}
use Rattle.template_compiler_names.specs.Names.{anywhere, reversed, is_stored_in, is_stored_by, is_stored_everywhere, place_before, place_if_given, place_in_one, place_in_links, place_in_arguments, place_in_argument, place_in_target, place_in_targets, place_from, place_of_arguments, place_of_macro, place_by, place_within}
use Rattle.template_compiler_names.specs.Enclosed.{is_listed, without, standing, standing_if_given, standing_in_each, standing_in_links, standing_in_arguments, standing_in_argument, used_by_target, used_by_targets, used_from, used_of_arguments, is_caller, is_loop, used_of_macro, used_by, used_in, in_order, EnclosesUsed}

or_none : (b : Bool) → (b || false) ≡ b
or_none true = refl
or_none false = refl

or_twice : (a b : Bool) → (a || b) ≡ (a || (a || b))
or_twice true b = refl
or_twice false b = refl

or_swapped : (a b c : Bool) → (a || (b || c)) ≡ (b || (a || c))
or_swapped true true c = refl
or_swapped true false c = refl
or_swapped false b c = refl

-- of two lists together the one or the other tells
either_list : (name : List ℕ) (xs ys : List (List ℕ)) (a b : Bool) → is_listed xs name ≡ a → is_listed ys name ≡ b → is_listed (xs ++ ys) name ≡ (a || b)
either_list name xs ys a b e f =
    list_any-append (λ other. bytes_eq other name) xs ys ∙ ap (λ x. x || is_listed ys name) e ∙ ap (λ y. a || y) f

-- one more name, where it is kept or not
kept_or_not : (f : Among) (x name : List ℕ) (rest : List (List ℕ)) (t : Bool) → f x ≡ t → is_listed (without f rest) name ≡ (not (f name) && is_listed rest name)
    → is_listed (without f (x ∷ rest)) name ≡ (not (f name) && (bytes_eq x name || is_listed rest name))
kept_or_not f x name rest true is e =
    ap (λ b. is_listed (cond (not b) (x ∷ without f rest) (without f rest)) name) is ∙ e ∙ passed (bytes_eq x name) refl
  where
    passed : (b : Bool) → bytes_eq x name ≡ b → (not (f name) && is_listed rest name) ≡ (not (f name) && (bytes_eq x name || is_listed rest name))
    passed true same =
        let held : f name ≡ true = ap f (sym ((bytes_eq-Decides x name).0 same)) ∙ is in
        ap (λ h. not h && is_listed rest name) held ∙ sym (ap (λ h. not h && (bytes_eq x name || is_listed rest name)) held)
    passed false other = sym (ap (λ b. not (f name) && (b || is_listed rest name)) other)
kept_or_not f x name rest false is e =
    ap (λ b. is_listed (cond (not b) (x ∷ without f rest) (without f rest)) name) is ∙ ap (λ b. bytes_eq x name || b) e ∙ passed (bytes_eq x name) refl
  where
    passed : (b : Bool) → bytes_eq x name ≡ b → (bytes_eq x name || (not (f name) && is_listed rest name)) ≡ (not (f name) && (bytes_eq x name || is_listed rest name))
    passed true same =
        let held : f name ≡ false = ap f (sym ((bytes_eq-Decides x name).0 same)) ∙ is in
        ap (λ b. b || (not (f name) && is_listed rest name)) same ∙ sym (ap (λ h. not h && (bytes_eq x name || is_listed rest name)) held ∙ ap (λ b. b || is_listed rest name) same)
    passed false other = ap (λ b. b || (not (f name) && is_listed rest name)) other ∙ sym (ap (λ b. not (f name) && (b || is_listed rest name)) other)

not_and : (b : Bool) → false ≡ (not b && false)
not_and true = refl
not_and false = refl

-- what is left of a list without some names
pub listed_without : (f : Among) (xs : List (List ℕ)) (name : List ℕ) → is_listed (without f xs) name ≡ (not (f name) && is_listed xs name)
listed_without f [] name = not_and (f name)
listed_without f (x ∷ xs) name = kept_or_not f x name xs (f x) refl (listed_without f xs name)

but_for : (name : List ℕ) (f : Among) (xs : List (List ℕ)) (a : Bool) → is_listed xs name ≡ a → is_listed (without f xs) name ≡ (not (f name) && a)
but_for name f xs a e = listed_without f xs name ∙ ap (λ b. not (f name) && b) e

mutual
  listed_standing : (name : List ℕ) (fields : List (List ℕ)) (e : Expression) → is_listed (standing e) name ≡ place_before (anywhere name) fields e
  listed_standing name fields (variable id) = or_none (bytes_eq id name)
  listed_standing name fields (constant v) = refl
  listed_standing name fields (slice e start stop by) =
      either_list name (standing e ++ standing_if_given start ++ standing_if_given stop) (standing_if_given by) _ _
      (either_list name (standing e ++ standing_if_given start) (standing_if_given stop) _ _
      (either_list name (standing e) (standing_if_given start) _ _ (listed_standing name [] e) (listed_given name start)) (listed_given name stop)) (listed_given name by)
  listed_standing name fields (unary op e) = listed_standing name [] e
  listed_standing name fields (binary op left right) = either_list name (standing left) (standing right) _ _ (listed_standing name [] left) (listed_standing name [] right)
  listed_standing name fields (chain first links) = either_list name (standing first) (standing_in_links links) _ _ (listed_standing name [] first) (listed_links name links)
  listed_standing name fields (conditional test branch otherwise) =
      either_list name (standing test ++ standing branch) (standing_if_given otherwise) _ _
      (either_list name (standing test) (standing branch) _ _ (listed_standing name [] test) (listed_standing name [] branch)) (listed_given name otherwise)
  listed_standing name fields (filtered filter value passed) = either_list name (standing_if_given value) (standing_in_arguments passed) _ _ (listed_given name value) (listed_arguments name passed)
  listed_standing name fields (tested test e passed) = either_list name (standing e) (standing_in_arguments passed) _ _ (listed_standing name [] e) (listed_arguments name passed)
  listed_standing name fields (attribute e field) = listed_standing name (field ∷ fields) e
  listed_standing name fields (item e key) = either_list name (standing e) (standing key) _ _ (listed_standing name [] e) (listed_standing name [] key)
  listed_standing name fields (call callee passed) = either_list name (standing callee) (standing_in_arguments passed) _ _ (listed_standing name [] callee) (listed_arguments name passed)
  listed_standing name fields (list_literal es) = listed_each name es
  listed_standing name fields (tuple_literal es) = listed_each name es
  listed_standing name fields (map_literal ks vs) = either_list name (standing_in_each ks) (standing_in_each vs) _ _ (listed_each name ks) (listed_each name vs)

  listed_given : (name : List ℕ) (o : Optional) → is_listed (standing_if_given o) name ≡ place_if_given (anywhere name) o
  listed_given name absent = refl
  listed_given name (given e) = listed_standing name [] e

  listed_each : (name : List ℕ) (es : Expressions) → is_listed (standing_in_each es) name ≡ place_in_one (anywhere name) es
  listed_each name no_expressions = refl
  listed_each name (expressions_more e es) = either_list name (standing e) (standing_in_each es) _ _ (listed_standing name [] e) (listed_each name es)

  listed_links : (name : List ℕ) (links : Links) → is_listed (standing_in_links links) name ≡ place_in_links (anywhere name) links
  listed_links name no_links = refl
  listed_links name (links_more op e links) = either_list name (standing e) (standing_in_links links) _ _ (listed_standing name [] e) (listed_links name links)

  listed_arguments : (name : List ℕ) (passed : Arguments) → is_listed (standing_in_arguments passed) name ≡ place_in_arguments (anywhere name) passed
  listed_arguments name no_arguments = refl
  listed_arguments name (arguments_more argument more) = either_list name (standing_in_argument argument) (standing_in_arguments more) _ _ (listed_argument name argument) (listed_arguments name more)

  listed_argument : (name : List ℕ) (argument : Argument) → is_listed (standing_in_argument argument) name ≡ place_in_argument (anywhere name) argument
  listed_argument name (positional e) = listed_standing name [] e
  listed_argument name (keyword key e) = listed_standing name [] e
  listed_argument name (positional_spread e) = listed_standing name [] e
  listed_argument name (keyword_spread e) = listed_standing name [] e

mutual
  listed_target : (name : List ℕ) (target : Expression) → is_listed (used_by_target target) name ≡ place_in_target (anywhere name) target
  listed_target name (attribute e field) = listed_standing name (field ∷ []) e
  listed_target name (list_literal targets) = listed_targets name targets
  listed_target name (variable id) = refl
  listed_target name (constant v) = refl
  listed_target name (slice e start stop by) = refl
  listed_target name (unary op e) = refl
  listed_target name (binary op left right) = refl
  listed_target name (chain first links) = refl
  listed_target name (conditional test branch otherwise) = refl
  listed_target name (filtered filter value passed) = refl
  listed_target name (tested test e passed) = refl
  listed_target name (item e key) = refl
  listed_target name (call callee passed) = refl
  listed_target name (tuple_literal es) = refl
  listed_target name (map_literal ks vs) = refl

  listed_targets : (name : List ℕ) (targets : Expressions) → is_listed (used_by_targets targets) name ≡ place_in_targets (anywhere name) targets
  listed_targets name no_expressions = refl
  listed_targets name (expressions_more target targets) =
      either_list name (used_by_target target) (without (λ id. is_stored_in id target) (used_by_targets targets)) _ _ (listed_target name target)
      (but_for name (λ id. is_stored_in id target) (used_by_targets targets) _ (listed_targets name targets))

listed_from : (name : List ℕ) (assignments : Assignments) (follows : List (List ℕ)) (after : Bool) → is_listed follows name ≡ after
    → is_listed (used_from assignments follows) name ≡ place_from (anywhere name) assignments after
listed_from name no_assignments follows after e = e
listed_from name (assignments_more target e more) follows after f =
    let behind = used_from more follows in
    either_list name (standing e ++ used_by_target target) (without (λ id. is_stored_in id target) behind) _ _
    (either_list name (standing e) (used_by_target target) _ _ (listed_standing name [] e) (listed_target name target))
    (but_for name (λ id. is_stored_in id target) behind _ (listed_from name more follows after f))

listed_parameters : (name : List ℕ) (arguments defaults : Expressions) (body : List (List ℕ)) (used : Bool) → is_listed body name ≡ used
    → is_listed (used_of_arguments arguments defaults body) name ≡ place_of_arguments (anywhere name) arguments defaults used
listed_parameters name no_expressions defaults body used e = e
listed_parameters name (expressions_more argument arguments) no_expressions body used e =
    but_for name (λ id. is_stored_in id argument) (used_of_arguments arguments no_expressions body) _ (listed_parameters name arguments no_expressions body used e)
listed_parameters name (expressions_more argument arguments) (expressions_more default defaults) body used e =
    let behind = used_of_arguments arguments defaults body in
    either_list name (standing default) (without (λ id. is_stored_in id argument) behind) _ _ (listed_standing name [] default)
    (but_for name (λ id. is_stored_in id argument) behind _ (listed_parameters name arguments defaults body used e))

listed_macro : (name : List ℕ) (arguments defaults : Expressions) (body : List (List ℕ)) (used : Bool) → is_listed body name ≡ used
    → is_listed (used_of_macro arguments defaults body) name ≡ place_of_macro (anywhere name) arguments defaults used
listed_macro name arguments defaults body used e =
    let targets = reversed arguments no_expressions in
    let values = reversed defaults no_expressions in
    but_for name is_caller (used_of_arguments targets values body) _ (listed_parameters name targets values body used e)

mutual
  listed_by : (name : List ℕ) (s : Statement) → is_listed (used_by s) name ≡ place_by (anywhere name) s
  listed_by name (template body) = listed_in name body
  listed_by name (raw text) = refl
  listed_by name (print e) = listed_standing name [] e
  listed_by name (for_loop target e condition recursive body otherwise) =
      let inner = without is_loop (used_in body) in
      let round = standing_if_given condition ++ inner in
      either_list name (standing e ++ used_by_target target ++ without (λ id. is_stored_in id target) round) (used_in otherwise) _ _
      (either_list name (standing e ++ used_by_target target) (without (λ id. is_stored_in id target) round) _ _
      (either_list name (standing e) (used_by_target target) _ _ (listed_standing name [] e) (listed_target name target))
      (but_for name (λ id. is_stored_in id target) round _
      (either_list name (standing_if_given condition) inner _ _ (listed_given name condition) (but_for name is_loop (used_in body) _ (listed_in name body)))))
      (listed_in name otherwise)
  listed_by name (if_condition e body otherwise) =
      either_list name (standing e ++ used_in body) (used_in otherwise) _ _ (either_list name (standing e) (used_in body) _ _ (listed_standing name [] e) (listed_in name body)) (listed_in name otherwise)
  listed_by name (with_block assignments body) = listed_from name assignments (used_in body) _ (listed_in name body)
  listed_by name (set target e) = either_list name (standing e) (used_by_target target) _ _ (listed_standing name [] e) (listed_target name target)
  listed_by name (set_block target filters body) =
      either_list name (used_in body ++ standing_if_given filters) (used_by_target target) _ _
      (either_list name (used_in body) (standing_if_given filters) _ _ (listed_in name body) (listed_given name filters)) (listed_target name target)
  listed_by name (auto_escape e body) = either_list name (standing e) (used_in body) _ _ (listed_standing name [] e) (listed_in name body)
  listed_by name (filter_block e body) = either_list name (used_in body) (standing e) _ _ (listed_in name body) (listed_standing name [] e)
  listed_by name (block id required body) = listed_in name body
  listed_by name (import e target) = either_list name (standing e) (used_by_target target) _ _ (listed_standing name [] e) (listed_target name target)
  listed_by name (from_import e names) = listed_standing name [] e
  listed_by name (extends e) = listed_standing name [] e
  listed_by name (include e ignore_missing) = listed_standing name [] e
  listed_by name (macro id arguments defaults body) = listed_macro name arguments defaults (used_in body) _ (listed_in name body)
  listed_by name (call_block callee passed arguments defaults body) =
      either_list name (standing callee ++ standing_in_arguments passed) (used_of_macro arguments defaults (used_in body)) _ _
      (either_list name (standing callee) (standing_in_arguments passed) _ _ (listed_standing name [] callee) (listed_arguments name passed))
      (listed_macro name arguments defaults (used_in body) _ (listed_in name body))
  listed_by name continue_loop = refl
  listed_by name break_loop = refl
  listed_by name (do_call callee passed) = either_list name (standing callee) (standing_in_arguments passed) _ _ (listed_standing name [] callee) (listed_arguments name passed)

  listed_in : (name : List ℕ) (ss : Statements) → is_listed (used_in ss) name ≡ place_within (anywhere name) ss
  listed_in name no_statements = refl
  listed_in name (statements_more s ss) =
      either_list name (used_by s) (without (λ id. is_stored_by id s) (used_in ss)) _ _ (listed_by name s) (but_for name (λ id. is_stored_by id s) (used_in ss) _ (listed_in name ss))

-- a name at its place in the order
inserted_before : (k x name : List ℕ) (xs more : List (List ℕ)) → is_listed more name ≡ (bytes_eq k name || is_listed xs name) → (r : Ordering) → is_eq r ≡ bytes_eq k x
    → is_listed (match_ordering r (k ∷ x ∷ xs) (x ∷ xs) (x ∷ more)) name ≡ (bytes_eq k name || (bytes_eq x name || is_listed xs name))
inserted_before k x name xs more further Less e = refl
inserted_before k x name xs more further Equal e =
    let same : k ≡ x = (bytes_eq-Decides k x).0 (sym e) in
    or_twice (bytes_eq x name) (is_listed xs name) ∙ ap (λ (id : List ℕ). bytes_eq id name || (bytes_eq x name || is_listed xs name)) (sym same)
inserted_before k x name xs more further Greater e = ap (λ b. bytes_eq x name || b) further ∙ or_swapped (bytes_eq x name) (bytes_eq k name) (is_listed xs name)

inserted : (xs : List (List ℕ)) (k name : List ℕ) → is_listed (insert_key (slice_cmp nat_cmp) xs k) name ≡ (bytes_eq k name || is_listed xs name)
inserted [] k name = refl
inserted (x ∷ xs) k name = inserted_before k x name xs (insert_key (slice_cmp nat_cmp) xs k) (inserted xs k name) (slice_cmp nat_cmp k x) (is_eq-slice_cmp k x)

ordered : (xs : List (List ℕ)) (name : List ℕ) → is_listed (in_order xs) name ≡ is_listed xs name
ordered [] name = refl
ordered (x ∷ xs) name = inserted (in_order xs) x name ∙ ap (λ b. bytes_eq x name || b) (ordered xs name)

pub encloses_used : EnclosesUsed
encloses_used arguments defaults body name =
    let used = used_of_macro arguments defaults (used_in body) in
    ordered (without is_stored_everywhere used) name
    ∙ but_for name is_stored_everywhere used _ (listed_macro name arguments defaults (used_in body) _ (listed_in name body))
