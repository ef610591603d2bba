-- The names that are told alone are those that attributes are joined to.
use Rattle.std.proofs.Common.{◌≡◌, ℕ, Bool, true, false, not, ◌&&◌, ◌||◌, IsTrue, List, [], ◌∷◌, codes, bytes_eq, inl, inr, ◌⊎◌, ◌↔◌, refl, ap, ◌∙◌}
use Rattle.std.proofs.lemmas.Slice.Eq.{bytes_eq-Decides}
use Rattle.template_compiler_tree.specs.Tree.{Expression, Optional, Expressions, Links, Arguments, Argument, variable, constant, slice, unary, binary, chain, conditional, filtered, tested, attribute, item, call, list_literal, tuple_literal, map_literal, absent, given, no_expressions, expressions_more, no_links, links_more, no_arguments, arguments_more, positional, keyword, positional_spread, keyword_spread, Statement, Statements, Assignments, template, raw, print, for_loop, if_condition, with_block, set, set_block, auto_escape, filter_block, block, import, from_import, extends, include, macro, call_block, continue_loop, break_loop, do_call, no_statements, statements_more, no_assignments, assignments_more}
use Rattle.template_compiler_names.specs.Names.{along, anywhere, are_fields, is_stored_by, is_stored_everywhere, is_stored_in, place_before, place_by, place_from, place_if_given, place_in, place_in_argument, place_in_arguments, place_in_links, place_in_one, place_in_target, place_in_targets, place_of_arguments, place_of_macro, place_within, reversed, uses_place}

-- it holds of one list of dotted names
abbrev Splits : Bool → (List (List ℕ) → Bool) → Type 0
Splits b f = IsTrue b ↔ ((fields : List (List ℕ)) × IsTrue (f fields))

none_splits : Splits false (λ fields. false)
none_splits = (λ h. cc, λ h. h.1)

pub either : (a b : Bool) → IsTrue (a || b) ↔ (IsTrue a ⊎ IsTrue b)
either true b = (λ h. inl refl, λ h. refl)
either false b = (λ h. inr h, λ h. elim h [ inl n ↦ cc | inr y ↦ y ])

or_splits : {a b : Bool} {f g : List (List ℕ) → Bool} → Splits a f → Splits b g → Splits (a || b) (λ fields. f fields || g fields)
or_splits {a} {b} {f} {g} h k = (
  λ o. elim ((either a b).0 o) [
    | inl i ↦ let s = h.0 i in (s.0, (either (f s.0) (g s.0)).1 (inl s.1))
    | inr i ↦ let s = k.0 i in (s.0, (either (f s.0) (g s.0)).1 (inr s.1))
  ],
  λ s. elim ((either (f s.0) (g s.0)).0 s.1) [ inl i ↦ (either a b).1 (inl (h.1 (s.0, i))) | inr i ↦ (either a b).1 (inr (k.1 (s.0, i))) ],
)

and_splits : (k : Bool) {b : Bool} {f : List (List ℕ) → Bool} → Splits b f → Splits (k && b) (λ fields. k && f fields)
and_splits true h = h
and_splits false h = none_splits

both_of : (a b : Bool) → IsTrue (a && b) → IsTrue b
both_of true b h = h
both_of false b h = cc

pub fields_are : (fields : List (List ℕ)) → are_fields fields fields ≡ true
fields_are [] = refl
fields_are (x ∷ xs) = ap (λ b. b && are_fields xs xs) ((bytes_eq-Decides x x).1 refl) ∙ fields_are xs

mutual
  before_splits : (name : List ℕ) (before : List (List ℕ)) (e : Expression) →
      Splits (place_before (anywhere name) before e) (λ fields. place_before (along name fields) before e)
  before_splits name before (variable id) =
      (λ h. (before, ap (λ b. b && bytes_eq id name) (fields_are before) ∙ h), λ s. both_of (are_fields before s.0) (bytes_eq id name) s.1)
  before_splits name before (constant v) = none_splits
  before_splits name before (slice e start stop by) =
      or_splits (or_splits (or_splits (before_splits name [] e) (given_splits name start)) (given_splits name stop)) (given_splits name by)
  before_splits name before (unary op e) = before_splits name [] e
  before_splits name before (binary op left right) = or_splits (before_splits name [] left) (before_splits name [] right)
  before_splits name before (chain first links) = or_splits (before_splits name [] first) (links_split name links)
  before_splits name before (conditional test branch otherwise) =
      or_splits (or_splits (before_splits name [] test) (before_splits name [] branch)) (given_splits name otherwise)
  before_splits name before (filtered filter value arguments) = or_splits (given_splits name value) (arguments_split name arguments)
  before_splits name before (tested test e arguments) = or_splits (before_splits name [] e) (arguments_split name arguments)
  before_splits name before (attribute e field) = before_splits name (field ∷ before) e
  before_splits name before (item e key) = or_splits (before_splits name [] e) (before_splits name [] key)
  before_splits name before (call callee arguments) = or_splits (before_splits name [] callee) (arguments_split name arguments)
  before_splits name before (list_literal es) = one_splits name es
  before_splits name before (tuple_literal es) = one_splits name es
  before_splits name before (map_literal ks vs) = or_splits (one_splits name ks) (one_splits name vs)

  given_splits : (name : List ℕ) (e : Optional) → Splits (place_if_given (anywhere name) e) (λ fields. place_if_given (along name fields) e)
  given_splits name absent = none_splits
  given_splits name (given e) = before_splits name [] e

  one_splits : (name : List ℕ) (es : Expressions) → Splits (place_in_one (anywhere name) es) (λ fields. place_in_one (along name fields) es)
  one_splits name no_expressions = none_splits
  one_splits name (expressions_more e es) = or_splits (before_splits name [] e) (one_splits name es)

  links_split : (name : List ℕ) (links : Links) →
      Splits (place_in_links (anywhere name) links) (λ fields. place_in_links (along name fields) links)
  links_split name no_links = none_splits
  links_split name (links_more op e links) = or_splits (before_splits name [] e) (links_split name links)

  arguments_split : (name : List ℕ) (arguments : Arguments) →
      Splits (place_in_arguments (anywhere name) arguments) (λ fields. place_in_arguments (along name fields) arguments)
  arguments_split name no_arguments = none_splits
  arguments_split name (arguments_more argument more) = or_splits (argument_splits name argument) (arguments_split name more)

  argument_splits : (name : List ℕ) (argument : Argument) →
      Splits (place_in_argument (anywhere name) argument) (λ fields. place_in_argument (along name fields) argument)
  argument_splits name (positional e) = before_splits name [] e
  argument_splits name (keyword key e) = before_splits name [] e
  argument_splits name (positional_spread e) = before_splits name [] e
  argument_splits name (keyword_spread e) = before_splits name [] e

in_splits : (name : List ℕ) (e : Expression) → Splits (place_in (anywhere name) e) (λ fields. place_in (along name fields) e)
in_splits name e = before_splits name [] e

mutual
  target_splits : (name : List ℕ) (target : Expression) →
      Splits (place_in_target (anywhere name) target) (λ fields. place_in_target (along name fields) target)
  target_splits name (attribute e field) = in_splits name (attribute e field)
  target_splits name (list_literal targets) = targets_split name targets
  target_splits name (variable id) = none_splits
  target_splits name (constant v) = none_splits
  target_splits name (slice e start stop by) = none_splits
  target_splits name (unary op e) = none_splits
  target_splits name (binary op left right) = none_splits
  target_splits name (chain first links) = none_splits
  target_splits name (conditional test branch otherwise) = none_splits
  target_splits name (filtered filter value passed) = none_splits
  target_splits name (tested test e passed) = none_splits
  target_splits name (item e key) = none_splits
  target_splits name (call callee passed) = none_splits
  target_splits name (tuple_literal es) = none_splits
  target_splits name (map_literal ks vs) = none_splits

  targets_split : (name : List ℕ) (targets : Expressions) →
      Splits (place_in_targets (anywhere name) targets) (λ fields. place_in_targets (along name fields) targets)
  targets_split name no_expressions = none_splits
  targets_split name (expressions_more target targets) =
      or_splits (target_splits name target) (and_splits (not (is_stored_in name target)) (targets_split name targets))

from_splits : (name : List ℕ) (assignments : Assignments) {b : Bool} {f : List (List ℕ) → Bool} → Splits b f →
    Splits (place_from (anywhere name) assignments b) (λ fields. place_from (along name fields) assignments (f fields))
from_splits name no_assignments h = h
from_splits name (assignments_more target e more) h =
    or_splits (or_splits (in_splits name e) (target_splits name target)) (and_splits (not (is_stored_in name target)) (from_splits name more h))

of_arguments_split : (name : List ℕ) (arguments defaults : Expressions) {b : Bool} {f : List (List ℕ) → Bool} → Splits b f →
    Splits (place_of_arguments (anywhere name) arguments defaults b) (λ fields. place_of_arguments (along name fields) arguments defaults (f fields))
of_arguments_split name no_expressions defaults h = h
of_arguments_split name (expressions_more argument arguments) no_expressions h =
    and_splits (not (is_stored_in name argument)) (of_arguments_split name arguments no_expressions h)
of_arguments_split name (expressions_more argument arguments) (expressions_more default defaults) h =
    or_splits (in_splits name default) (and_splits (not (is_stored_in name argument)) (of_arguments_split name arguments defaults h))

macro_splits : (name : List ℕ) (arguments defaults : Expressions) {b : Bool} {f : List (List ℕ) → Bool} → Splits b f →
    Splits (place_of_macro (anywhere name) arguments defaults b) (λ fields. place_of_macro (along name fields) arguments defaults (f fields))
macro_splits name arguments defaults h =
    and_splits (not (bytes_eq name (codes "caller"))) (of_arguments_split name (reversed arguments no_expressions) (reversed defaults no_expressions) h)

mutual
  by_splits : (name : List ℕ) (s : Statement) → Splits (place_by (anywhere name) s) (λ fields. place_by (along name fields) s)
  by_splits name (template ss) = within_splits name ss
  by_splits name (raw text) = none_splits
  by_splits name (print e) = in_splits name e
  by_splits name (for_loop target e filter recursive body otherwise) =
      or_splits (or_splits (or_splits (in_splits name e) (target_splits name target))
      (and_splits (not (is_stored_in name target))
      (or_splits (given_splits name filter) (and_splits (not (bytes_eq name (codes "loop"))) (within_splits name body)))))
      (within_splits name otherwise)
  by_splits name (if_condition e body otherwise) =
      or_splits (or_splits (in_splits name e) (within_splits name body)) (within_splits name otherwise)
  by_splits name (with_block assignments body) = from_splits name assignments (within_splits name body)
  by_splits name (set target e) = or_splits (in_splits name e) (target_splits name target)
  by_splits name (set_block target filters body) =
      or_splits (or_splits (within_splits name body) (given_splits name filters)) (target_splits name target)
  by_splits name (auto_escape e body) = or_splits (in_splits name e) (within_splits name body)
  by_splits name (filter_block e body) = or_splits (within_splits name body) (in_splits name e)
  by_splits name (block id required body) = within_splits name body
  by_splits name (import e target) = or_splits (in_splits name e) (target_splits name target)
  by_splits name (from_import e names) = in_splits name e
  by_splits name (extends e) = in_splits name e
  by_splits name (include e ignore_missing) = in_splits name e
  by_splits name (macro id arguments defaults body) = macro_splits name arguments defaults (within_splits name body)
  by_splits name (call_block callee passed arguments defaults body) =
      or_splits (or_splits (in_splits name callee) (arguments_split name passed)) (macro_splits name arguments defaults (within_splits name body))
  by_splits name continue_loop = none_splits
  by_splits name break_loop = none_splits
  by_splits name (do_call callee arguments) = or_splits (in_splits name callee) (arguments_split name arguments)

  within_splits : (name : List ℕ) (ss : Statements) →
      Splits (place_within (anywhere name) ss) (λ fields. place_within (along name fields) ss)
  within_splits name no_statements = none_splits
  within_splits name (statements_more s ss) = or_splits (by_splits name s) (and_splits (not (is_stored_by name s)) (within_splits name ss))

pub used_splits : (name : List ℕ) (tree : Statements) →
    Splits (uses_place (anywhere name) tree) (λ fields. uses_place (along name fields) tree)
used_splits name tree = and_splits (not (is_stored_everywhere name)) (within_splits name tree)
