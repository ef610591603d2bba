-- The names that a template uses: those with a place of use that no store of the name precedes, earlier in the order of
-- execution and in a region that is still open. Branches, bodies and else parts are regions: what is stored in one is
-- not known behind it.
use Rattle.std.specs.Prelude.{◌≡◌, ℕ, Bool, true, false, not, ◌&&◌, ◌||◌, IsTrue, List, [], ◌∷◌, ◌++◌, codes}
use Rattle.std.specs.Str.{bytes_eq}
use Rattle.template_compiler_tree.specs.Tree.{Expression, Optional, Expressions, Links, Arguments, Argument, variable, constant, slice, unary, binary, chain, conditional, filtered, tested, attribute, item, call, list_literal, tuple_literal, map_literal, absent, given, no_expressions, expressions_more, no_links, links_more, no_arguments, arguments_more, positional, keyword, positional_spread, keyword_spread, Statement, Statements, Assignments, Imports, template, raw, print, for_loop, if_condition, with_block, set, set_block, auto_escape, filter_block, block, import, from_import, extends, include, macro, call_block, continue_loop, break_loop, do_call, no_statements, statements_more, no_assignments, assignments_more, no_imports, imports_more}

-- Places of use: those of a name, where the dotted names directly behind it count.
pub record Places : Type 0 where
  pub name : List ℕ
  pub counts : List (List ℕ) → Bool

-- wherever the name is used
abbrev pub anywhere : List ℕ → Places
anywhere name = record { name = name; counts = λ behind. true }

abbrev pub are_fields : List (List ℕ) → List (List ℕ) → Bool
are_fields [] [] = true
are_fields (x ∷ xs) (y ∷ ys) = bytes_eq x y && are_fields xs ys
are_fields _ _ = false

-- where it has just these dotted names behind it
abbrev pub along : List ℕ → List (List ℕ) → Places
along name fields = record { name = name; counts = λ behind. are_fields behind fields }

-- a name and the dotted names behind it, joined by dots
abbrev pub joined : List ℕ → List (List ℕ) → List ℕ
joined name [] = name
joined name (field ∷ fields) = joined (name ++ 46 ∷ field) fields

-- the places that a text is told for: those of the name, or those of a name with what is joined to it
abbrev pub IsToldFor : Bool → List ℕ → Places → Type 0
IsToldFor false text places = places ≡ anywhere text
IsToldFor true text places = (name : List ℕ) × (fields : List (List ℕ)) × (places ≡ along name fields) × (joined name fields ≡ text)

abbrev mutual
  -- one of the places stands in the expression, which has these dotted names behind it
  pub place_before : Places → List (List ℕ) → Expression → Bool
  place_before places fields (variable id) = places.counts fields && bytes_eq id places.name
  place_before places fields (constant v) = false
  place_before places fields (slice e start stop by) =
      place_before places [] e || place_if_given places start || place_if_given places stop || place_if_given places by
  place_before places fields (unary op e) = place_before places [] e
  place_before places fields (binary op left right) = place_before places [] left || place_before places [] right
  place_before places fields (chain first links) = place_before places [] first || place_in_links places links
  place_before places fields (conditional test branch otherwise) =
      place_before places [] test || place_before places [] branch || place_if_given places otherwise
  place_before places fields (filtered filter value arguments) = place_if_given places value || place_in_arguments places arguments
  place_before places fields (tested test e arguments) = place_before places [] e || place_in_arguments places arguments
  place_before places fields (attribute e field) = place_before places (field ∷ fields) e
  place_before places fields (item e key) = place_before places [] e || place_before places [] key
  place_before places fields (call callee arguments) = place_before places [] callee || place_in_arguments places arguments
  place_before places fields (list_literal es) = place_in_one places es
  place_before places fields (tuple_literal es) = place_in_one places es
  place_before places fields (map_literal ks vs) = place_in_one places ks || place_in_one places vs

  pub place_if_given : Places → Optional → Bool
  place_if_given places absent = false
  place_if_given places (given e) = place_before places [] e

  pub place_in_one : Places → Expressions → Bool
  place_in_one places no_expressions = false
  place_in_one places (expressions_more e es) = place_before places [] e || place_in_one places es

  pub place_in_links : Places → Links → Bool
  place_in_links places no_links = false
  place_in_links places (links_more op e links) = place_before places [] e || place_in_links places links

  pub place_in_arguments : Places → Arguments → Bool
  place_in_arguments places no_arguments = false
  place_in_arguments places (arguments_more argument more) = place_in_argument places argument || place_in_arguments places more

  pub place_in_argument : Places → Argument → Bool
  place_in_argument places (positional e) = place_before places [] e
  place_in_argument places (keyword key e) = place_before places [] e
  place_in_argument places (positional_spread e) = place_before places [] e
  place_in_argument places (keyword_spread e) = place_before places [] e

-- one stands in the expression
abbrev pub place_in : Places → Expression → Bool
place_in places e = place_before places [] e

abbrev mutual
  -- what is stored in the target is known under the name from then on
  pub is_stored_in : List ℕ → Expression → Bool
  is_stored_in name (variable id) = bytes_eq id name
  is_stored_in name (list_literal targets) = is_stored_in_one name targets
  is_stored_in name _ = false

  pub is_stored_in_one : List ℕ → Expressions → Bool
  is_stored_in_one name no_expressions = false
  is_stored_in_one name (expressions_more target targets) = is_stored_in name target || is_stored_in_one name targets

abbrev mutual
  -- a dotted target uses its first name
  pub place_in_target : Places → Expression → Bool
  place_in_target places (attribute e field) = place_in places (attribute e field)
  place_in_target places (list_literal targets) = place_in_targets places targets
  place_in_target places _ = false

  -- they are stored from the first to the last
  pub place_in_targets : Places → Expressions → Bool
  place_in_targets places no_expressions = false
  place_in_targets places (expressions_more target targets) =
      place_in_target places target || not (is_stored_in places.name target) && place_in_targets places targets

-- each value, then its target, and what follows them
abbrev pub place_from : Places → Assignments → Bool → Bool
place_from places no_assignments follows = follows
place_from places (assignments_more target e more) follows =
    place_in places e || place_in_target places target || not (is_stored_in places.name target) && place_from places more follows

abbrev pub reversed : Expressions → Expressions → Expressions
reversed no_expressions behind = behind
reversed (expressions_more e es) behind = reversed es (expressions_more e behind)

-- from the last argument to the first: its default, if it has one, and then it is stored; the body follows
abbrev pub place_of_arguments : Places → Expressions → Expressions → Bool → Bool
place_of_arguments places no_expressions defaults body = body
place_of_arguments places (expressions_more argument arguments) no_expressions body =
    not (is_stored_in places.name argument) && place_of_arguments places arguments no_expressions body
place_of_arguments places (expressions_more argument arguments) (expressions_more default defaults) body =
    place_in places default || not (is_stored_in places.name argument) && place_of_arguments places arguments defaults body

-- in a macro `caller` is stored from its beginning on, so that no default uses it either
abbrev pub place_of_macro : Places → Expressions → Expressions → Bool → Bool
place_of_macro places arguments defaults body =
    not (bytes_eq places.name (codes "caller"))
    && place_of_arguments places (reversed arguments no_expressions) (reversed defaults no_expressions) body

-- an import stores each name, or the other name that is given for it
abbrev pub is_imported : List ℕ → Imports → Bool
is_imported name no_imports = false
is_imported name (imports_more e absent more) = is_stored_in name e || is_imported name more
is_imported name (imports_more e (given target) more) = is_stored_in name target || is_imported name more

-- behind the statement the name is stored, in the region where the statement stands
abbrev pub is_stored_by : List ℕ → Statement → Bool
is_stored_by name (set target e) = is_stored_in name target
is_stored_by name (set_block target filters body) = is_stored_in name target
is_stored_by name (import e target) = is_stored_in name target
is_stored_by name (from_import e names) = is_imported name names
is_stored_by name (macro id arguments defaults body) = bytes_eq id name
is_stored_by name _ = false

abbrev mutual
  -- one of the places is in the statement, and nothing before it there stores the name; in a loop's body `loop` is stored
  pub place_by : Places → Statement → Bool
  place_by places (template ss) = place_within places ss
  place_by places (raw text) = false
  place_by places (print e) = place_in places e
  place_by places (for_loop target e filter recursive body otherwise) =
      place_in places e || place_in_target places target
      || not (is_stored_in places.name target)
      && (place_if_given places filter || not (bytes_eq places.name (codes "loop")) && place_within places body)
      || place_within places otherwise
  place_by places (if_condition e body otherwise) = place_in places e || place_within places body || place_within places otherwise
  place_by places (with_block assignments body) = place_from places assignments (place_within places body)
  place_by places (set target e) = place_in places e || place_in_target places target
  place_by places (set_block target filters body) =
      place_within places body || place_if_given places filters || place_in_target places target
  place_by places (auto_escape e body) = place_in places e || place_within places body
  place_by places (filter_block e body) = place_within places body || place_in places e
  place_by places (block id required body) = place_within places body
  place_by places (import e target) = place_in places e || place_in_target places target
  place_by places (from_import e names) = place_in places e
  place_by places (extends e) = place_in places e
  place_by places (include e ignore_missing) = place_in places e
  place_by places (macro id arguments defaults body) = place_of_macro places arguments defaults (place_within places body)
  place_by places (call_block callee passed arguments defaults body) =
      place_in places callee || place_in_arguments places passed || place_of_macro places arguments defaults (place_within places body)
  place_by places continue_loop = false
  place_by places break_loop = false
  place_by places (do_call callee arguments) = place_in places callee || place_in_arguments places arguments

  -- one is in the statements of a region, and none before it stores the name
  pub place_within : Places → Statements → Bool
  place_within places no_statements = false
  place_within places (statements_more s ss) = place_by places s || not (is_stored_by places.name s) && place_within places ss

-- `self` and `super` are stored everywhere
abbrev pub is_stored_everywhere : List ℕ → Bool
is_stored_everywhere name = bytes_eq name (codes "self") || bytes_eq name (codes "super")

-- one of the places is in the template, and is used; its blocks are gone through where they stand
abbrev pub uses_place : Places → Statements → Bool
uses_place places tree = not (is_stored_everywhere places.name) && place_within places tree

-- the text names a use of the template: a name, or where attributes are told too, a name with those directly behind it
abbrev pub IsTold : Bool → List ℕ → Statements → Type 0
IsTold nested text tree = (places : Places) × IsToldFor nested text places × IsTrue (uses_place places tree)

-- the same of an expression alone
abbrev pub IsToldAlone : Bool → List ℕ → Expression → Type 0
IsToldAlone nested text e =
    (places : Places) × IsToldFor nested text places × IsTrue (not (is_stored_everywhere places.name) && place_in places e)

-- names, whatever stands behind them
abbrev pub stands_in : List ℕ → Expression → Bool
stands_in name e = place_in (anywhere name) e

abbrev pub stands_if_given : List ℕ → Optional → Bool
stands_if_given name e = place_if_given (anywhere name) e

abbrev pub stands_in_one : List ℕ → Expressions → Bool
stands_in_one name es = place_in_one (anywhere name) es

abbrev pub stands_in_links : List ℕ → Links → Bool
stands_in_links name links = place_in_links (anywhere name) links

abbrev pub is_used_by_target : List ℕ → Expression → Bool
is_used_by_target name target = place_in_target (anywhere name) target

abbrev pub is_used_from : List ℕ → Assignments → Bool → Bool
is_used_from name assignments follows = place_from (anywhere name) assignments follows

abbrev pub is_used_by : List ℕ → Statement → Bool
is_used_by name s = place_by (anywhere name) s

abbrev pub is_used_in : List ℕ → Statements → Bool
is_used_in name ss = place_within (anywhere name) ss

abbrev pub is_used : List ℕ → Statements → Bool
is_used name tree = uses_place (anywhere name) tree
