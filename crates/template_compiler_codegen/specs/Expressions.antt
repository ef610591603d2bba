-- The code of an expression, from the place where it begins.
use Rattle.std.specs.Prelude.{ℕ, ◌+◌, zero, suc, Bool, true, false, if◌then◌else◌, List, [], ◌∷◌, Option, None, Some}
use Rattle.template_values_model.specs.Val.{Val, silent_undefined, none, text}
use Rattle.template_compiler_tree.specs.declared.operators.UnaryOpKind.{UnaryOpKind}
use Rattle.template_compiler_tree.specs.declared.operators.UnaryOpKind.TheVariants.{Not, Neg}
use Rattle.template_compiler_tree.specs.declared.operators.BinOpKind.{BinOpKind}
use Rattle.template_compiler_tree.specs.declared.operators.BinOpKind.TheVariants.{ScAnd, ScOr}
use Rattle.template_compiler_tree.specs.Tree.{Expression, Optional, Expressions, Links, Arguments, variable, constant, unary, binary, chain, conditional, attribute, item, call, filtered, tested, list_literal, tuple_literal, map_literal, absent, given, no_expressions, expressions_more, no_links, links_more, no_arguments, arguments_more, positional, keyword, positional_spread, keyword_spread}
use Rattle.template_compiler_tree.specs.Tree as tree
use Rattle.template_compiler_walk.specs.Constants.{constant_of}
use Rattle.template_compiler_walk.specs.Expressions.{Passing, alone, spreads, has_spread, Callee, by_name, by_method, by_block, by_value, callee_of}
use Rattle.template_compiler_walk.specs.Statements.{number_of}
use Rattle.template_compiler_code.specs.Code.{Code, lookup, load_const, get_attr, get_item, slice, build_map, build_kwargs, merge_kwargs, build_list, unpack_lists, build_tuple, operate, negate, invert, compare_and_preserve, call_function, call_method, call_object, begin_capture, call_block, end_capture, apply_filter, perform_test, swap, discard_top, jump_if_false_or_pop, jump_if_true_or_pop}
use Rattle.template_compiler_codegen.specs.Core.{Core, empty, straight, both, leaping, either, loading, chosen, choose, no_ways, flat}
pub use Rattle.template_compiler_codegen.specs.Core.{Coded, then_code, one, nothing, loaded, skipped, either_code}

abbrev pub unary_code : UnaryOpKind → Code
unary_code Not = invert
unary_code Neg = negate

abbrev pub is_and : BinOpKind → Bool
is_and ScAnd = true
is_and _ = false

abbrev pub is_or : BinOpKind → Bool
is_or ScOr = true
is_or _ = false

-- both sides; of `and` and `or` the left one, whose value may lead past the right one
abbrev pub binary_core : BinOpKind → Core → Core → Core
binary_core op left right =
    both left (chosen (is_and op) (leaping jump_if_false_or_pop right)
    (chosen (is_or op) (leaping jump_if_true_or_pop right)
    (both right (straight (operate op)))))

-- the value below the top is dropped
abbrev pub dropped : Coded
dropped place = swap ∷ discard_top ∷ []

abbrev pub dropped_core : Core
dropped_core = both (straight swap) (straight discard_top)

-- so many keys have a value
abbrev pub entry_count : Expressions → List Core → ℕ
entry_count (expressions_more k ks) (piece ∷ later) = suc (entry_count ks later)
entry_count _ _ = 0

-- so many values become a list, if there are any; so many entries a keyword map
abbrev pub listed_core : ℕ → Core
listed_core zero = empty
listed_core (suc n) = straight (build_list (Some (suc n)))

abbrev pub mapped_core : ℕ → Core
mapped_core zero = empty
mapped_core (suc n) = straight (build_kwargs (suc n))

-- one where there are any
abbrev pub at_most_one : ℕ → ℕ
at_most_one zero = 0
at_most_one (suc n) = 1

-- arguments behind so many values that are not in a list yet: each stretch of values becomes a list where a spread follows
abbrev pub stretches_core : ℕ → List (Passing Core Core) → Core
stretches_core n [] = empty
stretches_core n (alone c ∷ args) = both c (stretches_core (suc n) args)
stretches_core n (spreads c ∷ args) = both (listed_core n) (both c (stretches_core 0 args))

-- so it is of names, each before its value, which become keyword maps
abbrev pub entries_stretches_core : ℕ → List (Passing (List ℕ × Core) Core) → Core
entries_stretches_core n [] = empty
entries_stretches_core n (alone c ∷ args) = both (straight (load_const (text c.0))) (both c.1 (entries_stretches_core (suc n) args))
entries_stretches_core n (spreads c ∷ args) = both (mapped_core n) (both c (entries_stretches_core 0 args))

-- how many lists and spreads they are, and how many values the last stretch has
abbrev pub list_count : {X : Type 0} → ℕ → List (Passing X Core) → ℕ
list_count n [] = 0
list_count n (alone x ∷ args) = list_count (suc n) args
list_count n (spreads c ∷ args) = at_most_one n + suc (list_count 0 args)

abbrev pub rest_count : {X : Type 0} → ℕ → List (Passing X Core) → ℕ
rest_count n [] = n
rest_count n (alone x ∷ args) = rest_count (suc n) args
rest_count n (spreads c ∷ args) = rest_count 0 args

-- several keyword maps are merged
abbrev pub merged_core : Bool → ℕ → Core
merged_core several n = chosen several (straight (merge_kwargs n)) empty

-- the keyword arguments, if there are any, become one keyword map
abbrev pub map_count : List (Passing (List ℕ × Core) Core) → ℕ
map_count args = list_count 0 args + at_most_one (rest_count 0 args)

abbrev pub keywords_core : List (Passing (List ℕ × Core) Core) → Core
keywords_core args =
    both (entries_stretches_core 0 args) (both (mapped_core (rest_count 0 args)) (merged_core (has_spread args) (map_count args)))

-- how many maps are left
abbrev pub merged_count : Bool → ℕ → ℕ
merged_count several n = if several then 1 else n

abbrev pub keyword_count : List (Passing (List ℕ × Core) Core) → ℕ
keyword_count args = merged_count (has_spread args) (map_count args)

-- where one of the values is spread all of them become one counted run
abbrev pub run_core : Bool → ℕ → ℕ → Core
run_core spread_one lists n =
    chosen spread_one (both (listed_core n) (straight (unpack_lists (lists + at_most_one n)))) empty

-- behind so many values at the front
abbrev pub passed_core : ℕ → List (Passing Core Core) → List (Passing (List ℕ × Core) Core) → Core
passed_core front args named =
    both (stretches_core front args) (both (keywords_core named)
    (run_core (has_spread args) (list_count front args) (rest_count front args + keyword_count named)))

-- how many values are passed, with those at the front; none is told where they are a counted run
abbrev pub passed_count : ℕ → List (Passing Core Core) → List (Passing (List ℕ × Core) Core) → Option ℕ
passed_count front args named = if has_spread args then None else Some (rest_count front args + keyword_count named)

-- a block's text
abbrev pub block_core : List ℕ → Core
block_core name = both (straight (begin_capture true)) (both (straight (call_block name)) (straight end_capture))

-- a call: the object, or what is called where it is no name; then the arguments
abbrev pub called_core : Callee → Core → Core → List (Passing Core Core) → List (Passing (List ℕ × Core) Core) → Core
called_core (by_name name) whole object args named = both (passed_core 0 args named) (straight (call_function name (passed_count 0 args named)))
called_core (by_method name) whole object args named =
    both object (both (passed_core 1 args named) (straight (call_method name (passed_count 1 args named))))
called_core (by_block name) whole object args named = block_core name
called_core by_value whole object args named = both whole (both (passed_core 1 args named) (straight (call_object (passed_count 1 args named))))

-- no number is told for the name of a filter or a test
abbrev pub no_number : ℕ
no_number = 255

abbrev mutual
  pub expression_core : Expression → Core
  expression_core (variable name) = straight (lookup name)
  expression_core (constant v) = straight (load_const v)
  expression_core (unary op e) = loading (constant_of (unary op e)) (both (expression_core e) (straight (unary_code op)))
  expression_core (binary op left right) =
      loading (constant_of (binary op left right)) (binary_core op (expression_core left) (expression_core right))
  expression_core (chain first links) = loading (constant_of (chain first links)) (both (expression_core first) (chain_core links))
  expression_core (conditional test branch otherwise) =
      both (expression_core test) (either (expression_core branch) (optional_core silent_undefined otherwise))
  expression_core (attribute e name) = both (expression_core e) (straight (get_attr name))
  expression_core (item e key) = both (expression_core e) (both (expression_core key) (straight get_item))
  expression_core (tree.slice e start stop by) =
      both (expression_core e) (both (optional_core none start)
      (both (optional_core none stop) (both (optional_core none by) (straight slice))))
  expression_core (list_literal es) =
      loading (constant_of (list_literal es)) (both (expressions_core es) (straight (build_list (Some (number_of es)))))
  expression_core (tuple_literal es) =
      loading (constant_of (tuple_literal es)) (both (expressions_core es) (straight (build_tuple (Some (number_of es)))))
  expression_core (map_literal ks vs) =
      loading (constant_of (map_literal ks vs))
      (both (entries_core ks (codes_of vs)) (straight (build_map (entry_count ks (codes_of vs)))))
  expression_core (call callee args) =
      called_core (callee_of callee args) (expression_core callee) (object_core callee) (positional_cores args) (keyword_cores args)
  expression_core (filtered name (given e) args) =
      let args_cores = positional_cores args in
      both (expression_core e) (both (passed_core 1 args_cores (keyword_cores args)) (straight (apply_filter name (passed_count 1 args_cores (keyword_cores args)) no_number)))
  expression_core (tested name e args) =
      let args_cores = positional_cores args in
      both (expression_core e) (both (passed_core 1 args_cores (keyword_cores args)) (straight (perform_test name (passed_count 1 args_cores (keyword_cores args)) no_number)))
  expression_core _ = empty  -- what has no walk yet has no code

  -- the object of a method
  pub object_core : Expression → Core
  object_core (attribute e name) = expression_core e
  object_core _ = empty

  -- each of the positional arguments, and each of the keyword ones with its name
  pub positional_cores : Arguments → List (Passing Core Core)
  positional_cores no_arguments = []
  positional_cores (arguments_more (positional e) args) = alone (expression_core e) ∷ positional_cores args
  positional_cores (arguments_more (positional_spread e) args) = spreads (expression_core e) ∷ positional_cores args
  positional_cores (arguments_more _ args) = positional_cores args

  pub keyword_cores : Arguments → List (Passing (List ℕ × Core) Core)
  keyword_cores no_arguments = []
  keyword_cores (arguments_more (keyword name e) args) = alone (name, expression_core e) ∷ keyword_cores args
  keyword_cores (arguments_more (keyword_spread e) args) = spreads (expression_core e) ∷ keyword_cores args
  keyword_cores (arguments_more _ args) = keyword_cores args

  -- what is left out is a constant
  pub optional_core : Val → Optional → Core
  optional_core missing absent = straight (load_const missing)
  optional_core missing (given e) = expression_core e

  pub expressions_core : Expressions → Core
  expressions_core no_expressions = empty
  expressions_core (expressions_more e es) = both (expression_core e) (expressions_core es)

  -- each of the expressions
  pub codes_of : Expressions → List Core
  codes_of no_expressions = []
  codes_of (expressions_more e es) = expression_core e ∷ codes_of es

  -- each key, and then its value
  pub entries_core : Expressions → List Core → Core
  entries_core (expressions_more k ks) (piece ∷ later) = both (expression_core k) (both piece (entries_core ks later))
  entries_core _ _ = empty

  -- the comparisons of a chain, behind the value at their left; in the end the value below the last truth is dropped
  pub chain_core : Links → Core
  chain_core no_links = empty
  chain_core (links_more op e links) =
      both (both (expression_core e) (straight (compare_and_preserve op))) (both (linked_core links) dropped_core)

  -- the later ones, each of which may be leapt over with all behind it
  pub linked_core : Links → Core
  linked_core no_links = empty
  linked_core (links_more op e links) =
      leaping jump_if_false_or_pop (both (both (expression_core e) (straight (compare_and_preserve op))) (linked_core links))

-- one filter over the value on top, with its arguments
abbrev pub filter_core : List ℕ → Arguments → Core
filter_core name args =
    both (passed_core 1 (positional_cores args) (keyword_cores args))
    (straight (apply_filter name (passed_count 1 (positional_cores args) (keyword_cores args)) no_number))

-- the filters of a block, one behind the other
abbrev pub filters_core : Expression → Core
filters_core (filtered name absent args) = filter_core name args
filters_core (filtered name (given e) args) = both (filters_core e) (filter_core name args)
filters_core _ = empty  -- what has no walk has no code

abbrev pub expression_code : Expression → Coded
expression_code e = flat no_ways (expression_core e)

abbrev pub optional_code : Val → Optional → Coded
optional_code missing o = flat no_ways (optional_core missing o)

abbrev pub expressions_code : Expressions → Coded
expressions_code es = flat no_ways (expressions_core es)

abbrev pub entries_code : Expressions → List Core → Coded
entries_code ks values = flat no_ways (entries_core ks values)

abbrev pub chain_code : Links → Coded
chain_code links = flat no_ways (chain_core links)

abbrev pub linked_code : Links → Coded
linked_code links = flat no_ways (linked_core links)

abbrev pub filter_code : List ℕ → Arguments → Coded
filter_code name args = flat no_ways (filter_core name args)

abbrev pub filters_code : Expression → Coded
filters_code filters = flat no_ways (filters_core filters)

-- arguments, as they are laid out
abbrev pub passed_code : ℕ → Arguments → Coded
passed_code front args = flat no_ways (passed_core front (positional_cores args) (keyword_cores args))

abbrev pub argument_count : ℕ → Arguments → Option ℕ
argument_count front args = passed_count front (positional_cores args) (keyword_cores args)

-- both sides, as they are laid out
abbrev pub binary_code : BinOpKind → Coded → Coded → Coded
binary_code op left right =
    then_code left (choose (is_and op) (skipped jump_if_false_or_pop right)
    (choose (is_or op) (skipped jump_if_true_or_pop right)
    (then_code right (one (operate op)))))
