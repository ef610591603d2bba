-- A macro encloses no more names than stand in the defaults of its parameters and in its body; and a tree that may stand in one
-- macro more is as many instructions larger.
use Rattle.std.proofs.Common.{◌≡◌, ◌≤◌, ℕ, ◌+◌, suc, Bool, true, false, not, cond, List, [], ◌∷◌, ◌++◌, length, length-append, arith}
use Rattle.std.specs.Ordering.{match_ordering, nat_cmp}
use Rattle.std.specs.declared.cmp.Ordering.{Ordering}
use Rattle.std.specs.declared.cmp.Ordering.TheVariants.{Less, Equal, Greater}
use Rattle.std.specs.Cmp.Lexicographic.{slice_cmp}
use Rattle.std.specs.BTreeSet.{insert_key}
use Rattle.template_compiler_tree.specs.Tree.{Expression, Optional, Expressions, Links, Arguments, Argument, variable, constant, slice, unary, binary, chain, conditional, filtered, tested, attribute, item, call, list_literal, tuple_literal, map_literal, absent, given, no_expressions, expressions_more, no_links, links_more, no_arguments, arguments_more, positional, keyword, positional_spread, keyword_spread, Statement, Statements, Assignments, Imports, template, raw, print, for_loop, if_condition, with_block, set, set_block, auto_escape, filter_block, block, import, from_import, extends, include, macro, call_block, continue_loop, break_loop, do_call, no_statements, statements_more, no_assignments, assignments_more, no_imports, imports_more}
use Rattle.template_compiler_names.specs.Among.{Among}
use Rattle.template_compiler_names.specs.Names.{reversed, is_stored_in, is_stored_by, is_stored_everywhere}
use Rattle.template_compiler_names.specs.Enclosed.{without, standing, standing_if_given, standing_in_each, standing_in_links, standing_in_arguments, standing_in_argument, used_by_target, used_by_targets, used_from, used_of_arguments, is_caller, is_loop, used_of_macro, used_by, used_in, in_order, enclosed_names}
use Rattle.template_compiler_walk.specs.Statements.{imported_names, stored_as}
use Rattle.template_compiler_laws.proofs.Sizes.{expression_size, optional_size, expressions_size, argument_size, arguments_size, chain_size, links_size, target_size, targets_size, assignments_size, stored_size, imports_size, iterable_size, defaults_size, statement_size, statements_size}

fewer_kept : (t : Bool) (x : List ℕ) (kept all : List (List ℕ)) → length kept ≤ length all → length (cond t (x ∷ kept) kept) ≤ suc (length all)
fewer_kept true x kept all h = omega (arith, h)
fewer_kept false x kept all h = omega (arith, h)

fewer : (f : Among) (names : List (List ℕ)) → length (without f names) ≤ length names
fewer f [] = omega arith
fewer f (x ∷ names) = fewer_kept (not (f x)) x (without f names) names (fewer f names)

placed_once : (r : Ordering) (k x : List ℕ) (xs more : List (List ℕ)) → length more ≤ suc (length xs) → length (match_ordering r (k ∷ x ∷ xs) (x ∷ xs) (x ∷ more)) ≤ suc (suc (length xs))
placed_once Less k x xs more h = omega arith
placed_once Equal k x xs more h = omega arith
placed_once Greater k x xs more h = omega (arith, h)

inserted_once : (xs : List (List ℕ)) (k : List ℕ) → length (insert_key (slice_cmp nat_cmp) xs k) ≤ suc (length xs)
inserted_once [] k = omega arith
inserted_once (x ∷ xs) k = placed_once (slice_cmp nat_cmp k x) k x xs (insert_key (slice_cmp nat_cmp) xs k) (inserted_once xs k)

fewer_in_order : (names : List (List ℕ)) → length (in_order names) ≤ length names
fewer_in_order [] = omega arith
fewer_in_order (x ∷ names) = let k = inserted_once (in_order names) x in let l = fewer_in_order names in omega (arith, k, l)

mutual
  more_expression : (k : ℕ) (e : Expression) → expression_size k e + length (standing e) ≤ expression_size (suc k) e
  more_expression k (variable id) = omega arith
  more_expression k (constant v) = omega arith
  more_expression k (slice e start stop by) =
      let a = more_expression k e in let b = more_optional k start in let c = more_optional k stop in let d = more_optional k by in
      omega (
        arith,
        a,
        b,
        c,
        d,
        length-append (standing e) (standing_if_given start),
        length-append (standing e ++ standing_if_given start) (standing_if_given stop),
        length-append (standing e ++ standing_if_given start ++ standing_if_given stop) (standing_if_given by),
      )
  more_expression k (unary op e) = let a = more_expression k e in omega (arith, a)
  more_expression k (binary op left right) = let a = more_expression k left in let b = more_expression k right in omega (arith, a, b, length-append (standing left) (standing right))
  more_expression k (chain first links) = let a = more_expression k first in let b = more_chain k links in omega (arith, a, b, length-append (standing first) (standing_in_links links))
  more_expression k (conditional test branch otherwise) =
      let a = more_expression k test in let b = more_expression k branch in let c = more_optional k otherwise in
      omega (arith, a, b, c, length-append (standing test) (standing branch), length-append (standing test ++ standing branch) (standing_if_given otherwise))
  more_expression k (filtered filter value passed) = let a = more_optional k value in let b = more_arguments k passed in omega (arith, a, b, length-append (standing_if_given value) (standing_in_arguments passed))
  more_expression k (tested test e passed) = let a = more_expression k e in let b = more_arguments k passed in omega (arith, a, b, length-append (standing e) (standing_in_arguments passed))
  more_expression k (attribute e field) = let a = more_expression k e in omega (arith, a)
  more_expression k (item e key) = let a = more_expression k e in let b = more_expression k key in omega (arith, a, b, length-append (standing e) (standing key))
  more_expression k (call callee passed) = let a = more_expression k callee in let b = more_arguments k passed in omega (arith, a, b, length-append (standing callee) (standing_in_arguments passed))
  more_expression k (list_literal es) = let a = more_expressions k es in omega (arith, a)
  more_expression k (tuple_literal es) = let a = more_expressions k es in omega (arith, a)
  more_expression k (map_literal ks vs) = let a = more_expressions k ks in let b = more_expressions k vs in omega (arith, a, b, length-append (standing_in_each ks) (standing_in_each vs))

  more_optional : (k : ℕ) (o : Optional) → optional_size k o + length (standing_if_given o) ≤ optional_size (suc k) o
  more_optional k absent = omega arith
  more_optional k (given e) = more_expression k e

  more_expressions : (k : ℕ) (es : Expressions) → expressions_size k es + length (standing_in_each es) ≤ expressions_size (suc k) es
  more_expressions k no_expressions = omega arith
  more_expressions k (expressions_more e es) = let a = more_expression k e in let b = more_expressions k es in omega (arith, a, b, length-append (standing e) (standing_in_each es))

  more_chain : (k : ℕ) (links : Links) → chain_size k links + length (standing_in_links links) ≤ chain_size (suc k) links
  more_chain k no_links = omega arith
  more_chain k (links_more op e links) = let a = more_expression k e in let b = more_links k links in omega (arith, a, b, length-append (standing e) (standing_in_links links))

  more_links : (k : ℕ) (links : Links) → links_size k links + length (standing_in_links links) ≤ links_size (suc k) links
  more_links k no_links = omega arith
  more_links k (links_more op e links) = let a = more_expression k e in let b = more_links k links in omega (arith, a, b, length-append (standing e) (standing_in_links links))

  more_arguments : (k : ℕ) (passed : Arguments) → arguments_size k passed + length (standing_in_arguments passed) ≤ arguments_size (suc k) passed
  more_arguments k no_arguments = omega arith
  more_arguments k (arguments_more argument more) =
      let a = more_argument k argument in let b = more_arguments k more in omega (arith, a, b, length-append (standing_in_argument argument) (standing_in_arguments more))

  more_argument : (k : ℕ) (argument : Argument) → argument_size k argument + length (standing_in_argument argument) ≤ argument_size (suc k) argument
  more_argument k (positional e) = more_expression k e
  more_argument k (keyword key e) = let a = more_expression k e in omega (arith, a)
  more_argument k (positional_spread e) = let a = more_expression k e in omega (arith, a)
  more_argument k (keyword_spread e) = let a = more_expression k e in omega (arith, a)

mutual
  more_target : (k : ℕ) (target : Expression) → target_size k target + length (used_by_target target) ≤ target_size (suc k) target
  more_target k (attribute e field) = let a = more_expression k e in omega (arith, a)
  more_target k (list_literal targets) = let a = more_targets k targets in omega (arith, a)
  more_target k (variable id) = omega arith
  more_target k (constant v) = omega arith
  more_target k (slice e start stop by) = omega arith
  more_target k (unary op e) = omega arith
  more_target k (binary op left right) = omega arith
  more_target k (chain first links) = omega arith
  more_target k (conditional test branch otherwise) = omega arith
  more_target k (filtered filter value passed) = omega arith
  more_target k (tested test e passed) = omega arith
  more_target k (item e key) = omega arith
  more_target k (call callee passed) = omega arith
  more_target k (tuple_literal es) = omega arith
  more_target k (map_literal ks vs) = omega arith

  more_targets : (k : ℕ) (targets : Expressions) → targets_size k targets + length (used_by_targets targets) ≤ targets_size (suc k) targets
  more_targets k no_expressions = omega arith
  more_targets k (expressions_more target targets) =
      let rest = without (λ id. is_stored_in id target) (used_by_targets targets) in
      let a = more_target k target in let b = more_targets k targets in
      omega (arith, a, b, length-append (used_by_target target) rest, fewer (λ id. is_stored_in id target) (used_by_targets targets))

more_assignments : (k : ℕ) (assignments : Assignments) (follows : List (List ℕ)) → assignments_size k assignments + length (used_from assignments follows) ≤ assignments_size (suc k) assignments + length follows
more_assignments k no_assignments follows = omega arith
more_assignments k (assignments_more target e more) follows =
    let behind = used_from more follows in
    let rest = without (λ id. is_stored_in id target) behind in
    let a = more_expression k e in let b = more_target k target in let c = more_assignments k more follows in
    omega (arith, a, b, c, length-append (standing e) (used_by_target target), length-append (standing e ++ used_by_target target) rest, fewer (λ id. is_stored_in id target) behind)

more_defaults : (k : ℕ) (defaults : Expressions) → defaults_size k defaults + length (standing_in_each defaults) ≤ defaults_size (suc k) defaults
more_defaults k no_expressions = omega arith
more_defaults k (expressions_more e es) = let a = more_expression k e in let b = more_defaults k es in omega (arith, a, b, length-append (standing e) (standing_in_each es))

reversed_each : (es behind : Expressions) → length (standing_in_each (reversed es behind)) ≡ length (standing_in_each es) + length (standing_in_each behind)
reversed_each no_expressions behind = omega arith
reversed_each (expressions_more e es) behind =
    omega (arith, reversed_each es (expressions_more e behind), length-append (standing e) (standing_in_each behind), length-append (standing e) (standing_in_each es))

used_arguments : (arguments defaults : Expressions) (body : List (List ℕ)) → length (used_of_arguments arguments defaults body) ≤ length (standing_in_each defaults) + length body
used_arguments no_expressions defaults body = omega arith
used_arguments (expressions_more argument arguments) no_expressions body =
    let a = used_arguments arguments no_expressions body in omega (arith, a, fewer (λ id. is_stored_in id argument) (used_of_arguments arguments no_expressions body))
used_arguments (expressions_more argument arguments) (expressions_more default defaults) body =
    let behind = used_of_arguments arguments defaults body in
    let a = used_arguments arguments defaults body in
    omega (arith, a, length-append (standing default) (without (λ id. is_stored_in id argument) behind), fewer (λ id. is_stored_in id argument) behind, length-append (standing default) (standing_in_each defaults))

used_macro : (arguments defaults : Expressions) (body : List (List ℕ)) → length (used_of_macro arguments defaults body) ≤ length (standing_in_each defaults) + length body
used_macro arguments defaults body =
    let targets = reversed arguments no_expressions in
    let values = reversed defaults no_expressions in
    let a = used_arguments targets values body in
    omega (arith, a, fewer is_caller (used_of_arguments targets values body), reversed_each defaults no_expressions)

-- so many names are enclosed at most
pub enclosed_most : (arguments defaults : Expressions) (body : Statements) → length (enclosed_names arguments defaults body) ≤ length (standing_in_each defaults) + length (used_in body)
enclosed_most arguments defaults body =
    let used = used_of_macro arguments defaults (used_in body) in
    let a = used_macro arguments defaults (used_in body) in
    omega (arith, a, fewer is_stored_everywhere used, fewer_in_order (without is_stored_everywhere used))

more_iterable : (k : ℕ) (target e : Expression) (condition : Optional) → iterable_size k target e condition + length (standing e ++ standing_if_given condition) ≤ iterable_size (suc k) target e condition
more_iterable k target e absent = let a = more_expression k e in omega (arith, a, length-append (standing e) (standing_if_given absent))
more_iterable k target e (given condition) =
    let a = more_expression k e in let b = more_expression k condition in let c = more_target k target in omega (arith, a, b, c, length-append (standing e) (standing condition))

more_imports : (k : ℕ) (names : Imports) → imports_size k names ≤ imports_size (suc k) names
more_imports k names = let a = looked_up k names in let b = stored_too k names in omega (arith, a, b)
  where
    looked_up : (k : ℕ) (names : Imports) → expressions_size k (imported_names names) ≤ expressions_size (suc k) (imported_names names)
    looked_up k names = let a = more_expressions k (imported_names names) in omega (arith, a)

    stored_too : (k : ℕ) (names : Imports) → stored_size k names ≤ stored_size (suc k) names
    stored_too k no_imports = omega arith
    stored_too k (imports_more e alias more) = let a = more_target k (stored_as e alias) in let b = stored_too k more in omega (arith, a, b)

mutual
  more_statement : (k n : ℕ) (s : Statement) → statement_size k n s + length (used_by s) ≤ statement_size (suc k) n s
  more_statement k n (template body) = let a = more_statements k n body in omega (arith, a)
  more_statement k n (raw text) = omega arith
  more_statement k n (print e) = let a = more_expression k e in omega (arith, a)
  more_statement k n (for_loop target e condition recursive body otherwise) =
      let inner = without is_loop (used_in body) in
      let round = standing_if_given condition ++ inner in
      let rest = without (λ id. is_stored_in id target) round in
      let a = more_iterable k target e condition in let b = more_target k target in let c = more_statements k 0 body in let d = more_statements k n otherwise in
      omega (
        arith,
        a,
        b,
        c,
        d,
        length-append (standing e) (standing_if_given condition),
        length-append (standing e) (used_by_target target),
        length-append (standing e ++ used_by_target target) rest,
        length-append (standing e ++ used_by_target target ++ rest) (used_in otherwise),
        length-append (standing_if_given condition) inner,
        fewer (λ id. is_stored_in id target) round,
        fewer is_loop (used_in body),
      )
  more_statement k n (if_condition e body otherwise) =
      let a = more_expression k e in let b = more_statements k n body in let c = more_statements k n otherwise in
      omega (arith, a, b, c, length-append (standing e) (used_in body), length-append (standing e ++ used_in body) (used_in otherwise))
  more_statement k n (with_block assignments body) =
      let a = more_assignments k assignments (used_in body) in let b = more_statements k (suc n) body in omega (arith, a, b)
  more_statement k n (set target e) = let a = more_expression k e in let b = more_target k target in omega (arith, a, b, length-append (standing e) (used_by_target target))
  more_statement k n (set_block target filters body) =
      let a = more_statements k (suc (suc n)) body in let b = more_optional k filters in let c = more_target k target in
      omega (arith, a, b, c, length-append (used_in body) (standing_if_given filters), length-append (used_in body ++ standing_if_given filters) (used_by_target target))
  more_statement k n (auto_escape e body) = let a = more_expression k e in let b = more_statements k (suc n) body in omega (arith, a, b, length-append (standing e) (used_in body))
  more_statement k n (filter_block e body) = let a = more_statements k (suc (suc n)) body in let b = more_expression k e in omega (arith, a, b, length-append (used_in body) (standing e))
  more_statement k n (block id required body) = let a = more_statements k 0 body in omega (arith, a)
  more_statement k n (import e target) = let a = more_expression k e in let b = more_target k target in omega (arith, a, b, length-append (standing e) (used_by_target target))
  more_statement k n (from_import e names) = let a = more_expression k e in let b = more_imports k names in omega (arith, a, b)
  more_statement k n (extends e) = let a = more_expression k e in omega (arith, a)
  more_statement k n (include e ignore_missing) = let a = more_expression k e in omega (arith, a)
  more_statement k n (macro id arguments defaults body) =
      let a = more_targets k arguments in let b = more_defaults k defaults in let c = more_statements k 0 body in let d = used_macro arguments defaults (used_in body) in
      omega (arith, a, b, c, d)
  more_statement k n (call_block callee passed arguments defaults body) =
      let own = used_of_macro arguments defaults (used_in body) in
      let a = more_targets k arguments in let b = more_defaults k defaults in let c = more_statements k 0 body in let d = used_macro arguments defaults (used_in body) in
      let e = more_expression k callee in let f = more_arguments k passed in
      omega (arith, a, b, c, d, e, f, length-append (standing callee) (standing_in_arguments passed), length-append (standing callee ++ standing_in_arguments passed) own)
  more_statement k n continue_loop = omega arith
  more_statement k n break_loop = omega arith
  more_statement k n (do_call callee passed) =
      let a = more_expression k callee in let b = more_arguments k passed in omega (arith, a, b, length-append (standing callee) (standing_in_arguments passed))

  pub more_statements : (k n : ℕ) (ss : Statements) → statements_size k n ss + length (used_in ss) ≤ statements_size (suc k) n ss
  more_statements k n no_statements = omega arith
  more_statements k n (statements_more s ss) =
      let rest = without (λ id. is_stored_by id s) (used_in ss) in
      let a = more_statement k n s in let b = more_statements k n ss in
      omega (arith, a, b, length-append (used_by s) rest, fewer (λ id. is_stored_by id s) (used_in ss))

-- what a macro is made of, with the names that it encloses
pub declared_more : (k : ℕ) (arguments defaults : Expressions) (body : Statements)
    → defaults_size k defaults + statements_size k 0 body + length (enclosed_names arguments defaults body) ≤ defaults_size (suc k) defaults + statements_size (suc k) 0 body
declared_more k arguments defaults body =
    let a = more_defaults k defaults in let b = more_statements k 0 body in let c = enclosed_most arguments defaults body in omega (arith, a, b, c)

pub more_targets_size : (k : ℕ) (targets : Expressions) → targets_size k targets ≤ targets_size (suc k) targets
more_targets_size k targets = let a = more_targets k targets in omega (arith, a)
