-- The names that a macro encloses, as a list: form by form, what the tests of use tell, and in the end in order of bytes.
use Rattle.std.specs.Prelude.{◌≡◌, ℕ, Bool, not, ◌&&◌, List, [], ◌∷◌, ◌++◌, filter, codes}
use Rattle.std.specs.Str.{bytes_eq}
use Rattle.std.specs.List.{list_any}
use Rattle.std.specs.Ordering.{nat_cmp}
use Rattle.std.specs.Cmp.Lexicographic.{slice_cmp}
use Rattle.std.specs.BTreeSet.{insert_key}
use Rattle.template_compiler_tree.specs.Tree.{Expression, Optional, Expressions, Links, Arguments, Argument, variable, constant, slice, unary, binary, chain, conditional, filtered, tested, attribute, item, call, list_literal, tuple_literal, map_literal, absent, given, no_expressions, expressions_more, no_links, links_more, no_arguments, arguments_more, positional, keyword, positional_spread, keyword_spread, Statement, Statements, Assignments, template, raw, print, for_loop, if_condition, with_block, set, set_block, auto_escape, filter_block, block, import, from_import, extends, include, macro, call_block, continue_loop, break_loop, do_call, no_statements, statements_more, no_assignments, assignments_more}
use Rattle.template_compiler_names.specs.Among.{Among}
use Rattle.template_compiler_names.specs.Names.{anywhere, reversed, is_stored_in, is_stored_by, is_stored_everywhere, is_used_in, place_of_arguments, place_of_macro}

-- the name is one of the list
abbrev pub is_listed : List (List ℕ) → Among
is_listed names name = list_any (λ other. bytes_eq other name) names

-- those that the test does not hold of
abbrev pub without : Among → List (List ℕ) → List (List ℕ)
without among names = filter (λ name. not (among name)) names

abbrev mutual
  -- those that stand in an expression
  pub standing : Expression → List (List ℕ)
  standing (variable id) = id ∷ []
  standing (constant v) = []
  standing (slice e start stop by) = standing e ++ standing_if_given start ++ standing_if_given stop ++ standing_if_given by
  standing (unary op e) = standing e
  standing (binary op left right) = standing left ++ standing right
  standing (chain first links) = standing first ++ standing_in_links links
  standing (conditional test branch otherwise) = standing test ++ standing branch ++ standing_if_given otherwise
  standing (filtered filter value arguments) = standing_if_given value ++ standing_in_arguments arguments
  standing (tested test e arguments) = standing e ++ standing_in_arguments arguments
  standing (attribute e field) = standing e
  standing (item e key) = standing e ++ standing key
  standing (call callee arguments) = standing callee ++ standing_in_arguments arguments
  standing (list_literal es) = standing_in_each es
  standing (tuple_literal es) = standing_in_each es
  standing (map_literal ks vs) = standing_in_each ks ++ standing_in_each vs

  pub standing_if_given : Optional → List (List ℕ)
  standing_if_given absent = []
  standing_if_given (given e) = standing e

  pub standing_in_each : Expressions → List (List ℕ)
  standing_in_each no_expressions = []
  standing_in_each (expressions_more e es) = standing e ++ standing_in_each es

  pub standing_in_links : Links → List (List ℕ)
  standing_in_links no_links = []
  standing_in_links (links_more op e links) = standing e ++ standing_in_links links

  pub standing_in_arguments : Arguments → List (List ℕ)
  standing_in_arguments no_arguments = []
  standing_in_arguments (arguments_more argument more) = standing_in_argument argument ++ standing_in_arguments more

  pub standing_in_argument : Argument → List (List ℕ)
  standing_in_argument (positional e) = standing e
  standing_in_argument (keyword key e) = standing e
  standing_in_argument (positional_spread e) = standing e
  standing_in_argument (keyword_spread e) = standing e

abbrev mutual
  -- those that a target uses: the first name of a dotted one
  pub used_by_target : Expression → List (List ℕ)
  used_by_target (attribute e field) = standing e
  used_by_target (list_literal targets) = used_by_targets targets
  used_by_target _ = []

  pub used_by_targets : Expressions → List (List ℕ)
  used_by_targets no_expressions = []
  used_by_targets (expressions_more target targets) =
      used_by_target target ++ without (λ name. is_stored_in name target) (used_by_targets targets)

-- those of the values and targets, and of what follows them
abbrev pub used_from : Assignments → List (List ℕ) → List (List ℕ)
used_from no_assignments follows = follows
used_from (assignments_more target e more) follows =
    standing e ++ used_by_target target ++ without (λ name. is_stored_in name target) (used_from more follows)

-- those of arguments, the last one first, and of the body that follows them
abbrev pub used_of_arguments : Expressions → Expressions → List (List ℕ) → List (List ℕ)
used_of_arguments no_expressions defaults body = body
used_of_arguments (expressions_more argument arguments) no_expressions body =
    without (λ name. is_stored_in name argument) (used_of_arguments arguments no_expressions body)
used_of_arguments (expressions_more argument arguments) (expressions_more default defaults) body =
    standing default ++ without (λ name. is_stored_in name argument) (used_of_arguments arguments defaults body)

abbrev pub is_caller : Among
is_caller name = bytes_eq name (codes "caller")

abbrev pub is_loop : Among
is_loop name = bytes_eq name (codes "loop")

-- those of a macro
abbrev pub used_of_macro : Expressions → Expressions → List (List ℕ) → List (List ℕ)
used_of_macro arguments defaults body =
    without is_caller (used_of_arguments (reversed arguments no_expressions) (reversed defaults no_expressions) body)

abbrev mutual
  -- those that a statement uses
  pub used_by : Statement → List (List ℕ)
  used_by (template body) = used_in body
  used_by (raw text) = []
  used_by (print e) = standing e
  used_by (for_loop target e filter recursive body otherwise) =
      standing e ++ used_by_target target
      ++ without (λ name. is_stored_in name target) (standing_if_given filter ++ without is_loop (used_in body))
      ++ used_in otherwise
  used_by (if_condition e body otherwise) = standing e ++ used_in body ++ used_in otherwise
  used_by (with_block assignments body) = used_from assignments (used_in body)
  used_by (set target e) = standing e ++ used_by_target target
  used_by (set_block target filters body) = used_in body ++ standing_if_given filters ++ used_by_target target
  used_by (auto_escape e body) = standing e ++ used_in body
  used_by (filter_block e body) = used_in body ++ standing e
  used_by (block id required body) = used_in body
  used_by (import e target) = standing e ++ used_by_target target
  used_by (from_import e names) = standing e
  used_by (extends e) = standing e
  used_by (include e ignore_missing) = standing e
  used_by (macro id arguments defaults body) = used_of_macro arguments defaults (used_in body)
  used_by (call_block callee passed arguments defaults body) =
      standing callee ++ standing_in_arguments passed ++ used_of_macro arguments defaults (used_in body)
  used_by continue_loop = []
  used_by break_loop = []
  used_by (do_call callee arguments) = standing callee ++ standing_in_arguments arguments

  pub used_in : Statements → List (List ℕ)
  used_in no_statements = []
  used_in (statements_more s ss) = used_by s ++ without (λ name. is_stored_by name s) (used_in ss)

-- each once, in order of bytes
abbrev pub in_order : List (List ℕ) → List (List ℕ)
in_order [] = []
in_order (name ∷ names) = insert_key (slice_cmp nat_cmp) (in_order names) name

-- the names that a macro encloses when it is made
abbrev pub enclosed_names : Expressions → Expressions → Statements → List (List ℕ)
enclosed_names arguments defaults body = in_order (without is_stored_everywhere (used_of_macro arguments defaults (used_in body)))

-- the name is used by a default of the arguments, or by the body
abbrev pub encloses : Expressions → Expressions → Statements → Among
encloses arguments defaults body name =
    not (is_stored_everywhere name) && place_of_macro (anywhere name) arguments defaults (is_used_in name body)

-- They are those.
abbrev pub EnclosesUsed : Type 0
EnclosesUsed = (arguments defaults : Expressions) (body : Statements) (name : List ℕ) →
    is_listed (enclosed_names arguments defaults body) name ≡ encloses arguments defaults body name

-- whether a macro takes a caller: a default or the body uses it, macros within it aside
abbrev pub uses_caller : Expressions → Expressions → Statements → Bool
uses_caller arguments defaults body =
    place_of_arguments (anywhere (codes "caller")) (reversed arguments no_expressions) (reversed defaults no_expressions)
    (is_used_in (codes "caller") body)
