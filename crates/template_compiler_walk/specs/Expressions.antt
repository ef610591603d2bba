-- The walk of an expression: its events in the order of execution, and between them the priced steps.
use Rattle.std.specs.Prelude.{ℕ, Bool, true, false, ◌&&◌, List, [], ◌∷◌, ◌++◌, Option, None, Some}
use Rattle.template_values_model.specs.Val.{Val, silent_undefined, none, text}
use Rattle.template_compiler_tree.specs.declared.operators.UnaryOpKind.{UnaryOpKind}
use Rattle.template_compiler_tree.specs.declared.operators.UnaryOpKind.TheVariants.{Not, Neg}
use Rattle.template_compiler_tree.specs.declared.operators.BinOpKind.{BinOpKind}
use Rattle.template_compiler_tree.specs.declared.operators.BinOpKind.TheVariants.{ScAnd, ScOr}
use Rattle.template_compiler_tree.specs.Tree.{Expression, Optional, Expressions, Links, Arguments, variable, constant, slice, unary, binary, chain, conditional, attribute, item, call, filtered, tested, list_literal, tuple_literal, map_literal, absent, given, no_expressions, expressions_more, no_links, links_more, no_arguments, arguments_more, positional, keyword, positional_spread, keyword_spread}
use Rattle.template_compiler_tree.specs.Kinds.{is_self_name, is_empty}
use Rattle.template_compiler_process.specs.Process.{Ask, look_up, negate, invert, operate, compare, get_attribute, get_item, get_slice, build_list, build_tuple, build_map, build_kwargs, merge_kwargs, spread, call_function, call_method, call_value, call_block, begin_capture, end_capture, apply_filter, perform_test, Process, step, asks, cut_short, on_done, on_all, done_asked, value_asked, truth_asked}
use Rattle.template_compiler_walk.specs.Constants.{constant_of}

-- a constant costs nothing and asks nothing; what is none does its own walk
abbrev pub folded : Option Val → (Val → Process) → Process → Process
folded (Some v) go walk = go v
folded None go walk = walk

abbrev pub unary_ask : UnaryOpKind → Val → Ask
unary_ask Not v = invert v
unary_ask Neg v = negate v

-- both sides, and one step; of `and` and `or` the right side alone where the left one does not decide
abbrev pub binary_walk : BinOpKind → ((Val → Process) → Process) → ((Val → Process) → Process) → (Val → Process) → Process
binary_walk ScAnd left right go = left (λ v. truth_asked v (right go) (go v))
binary_walk ScOr left right go = left (λ v. truth_asked v (go v) (right go))
binary_walk op left right go = left (λ v. right (λ w. value_asked (operate op v w) go))

-- a walk that gives a value, before what follows
abbrev pub Giving : Type 0
Giving = (Val → Process) → Process

-- an argument is a value of its own, or one whose items or entries are passed
pub data Passing (X Y : Type 0) : Type 0 where
  alone : X → Passing X Y
  spreads : Y → Passing X Y

-- a stretch of values becomes a list, if there are any
abbrev pub listed : List Val → (List Val → Process) → Process
listed [] go = go []
listed (v ∷ vs) go = value_asked (build_list (v ∷ vs)) (λ list. go (list ∷ []))

-- behind values that are not in a list yet: each stretch of values becomes a list where a spread follows; what follows is given
-- all lists and spreads, and the last stretch
abbrev pub stretches_walk : List Val → List (Passing Giving Giving) → (List Val → List Val → Process) → Process
stretches_walk vs [] go = go [] vs
stretches_walk vs (alone walk ∷ args) go = walk (λ v. stretches_walk (vs ++ v ∷ []) args go)
stretches_walk vs (spreads walk ∷ args) go =
    listed vs (λ before. walk (λ v. stretches_walk [] args (λ later rest. go (before ++ v ∷ later) rest)))

-- entries become a keyword map, if there are any
abbrev pub mapped : List (Val × Val) → (List Val → Process) → Process
mapped [] go = go []
mapped (e ∷ es) go = value_asked (build_kwargs (e ∷ es)) (λ map. go (map ∷ []))

-- so it is of names with their values, which become keyword maps
abbrev pub entries_stretches : List (Val × Val) → List (Passing (List ℕ × Giving) Giving) → (List Val → List (Val × Val) → Process) → Process
entries_stretches es [] go = go [] es
entries_stretches es (alone n ∷ args) go = n.1 (λ v. entries_stretches (es ++ (text n.0, v) ∷ []) args go)
entries_stretches es (spreads walk ∷ args) go =
    mapped es (λ before. walk (λ v. entries_stretches [] args (λ later rest. go (before ++ v ∷ later) rest)))

-- whether one of the arguments is a spread
abbrev pub has_spread : {X Y : Type 0} → List (Passing X Y) → Bool
has_spread [] = false
has_spread (alone x ∷ args) = has_spread args
has_spread (spreads y ∷ args) = true

-- the keyword arguments, if there are any, become one keyword map, for which several are merged
abbrev pub merged_if : Bool → List Val → (List Val → Process) → Process
merged_if false maps go = go maps
merged_if true maps go = value_asked (merge_kwargs maps) (λ map. go (map ∷ []))

abbrev pub keywords_walk : List (Passing (List ℕ × Giving) Giving) → (List Val → Process) → Process
keywords_walk args go = entries_stretches [] args (λ maps rest. mapped rest (λ more. merged_if (has_spread args) (maps ++ more) go))

-- the values that are passed, those at the front among them; where one is spread all become one run
abbrev pub run_if : Bool → List Val → List Val → (List Val → Process) → Process
run_if false lists vs go = go vs
run_if true lists vs go = listed vs (λ more. step (asks (spread (lists ++ more)) (on_all go)))

-- positional arguments come before keyword ones, whatever order they are written in
abbrev pub passed_walk : List Val → List (Passing Giving Giving) → List (Passing (List ℕ × Giving) Giving) → (List Val → Process) → Process
passed_walk front args named go =
    stretches_walk front args (λ lists vs. keywords_walk named (λ last. run_if (has_spread args) lists (vs ++ last) go))

-- what is called: a name, a method of an object, a block of the template, or a value
pub data Callee : Type 0 where
  by_name : List ℕ → Callee
  by_method : List ℕ → Callee
  by_block : List ℕ → Callee
  by_value : Callee

-- an attribute of `self` that is called without arguments is a block
abbrev pub attribute_called : Bool → List ℕ → Callee
attribute_called true name = by_block name
attribute_called false name = by_method name

abbrev pub callee_of : Expression → Arguments → Callee
callee_of (variable name) args = by_name name
callee_of (attribute e name) args = attribute_called (is_self_name e && is_empty args) name
callee_of _ args = by_value

-- a block's text
abbrev pub block_walk : List ℕ → Giving
block_walk name go = asks (begin_capture true) (on_done (done_asked (call_block name) (value_asked end_capture go)))

-- a call: the object, or what is called where it is no name; then the arguments
abbrev pub called_walk : Callee → Giving → Giving → (List Val → (List Val → Process) → Process) → Giving
called_walk (by_name name) whole object passed go = passed [] (λ vs. value_asked (call_function name vs) go)
called_walk (by_method name) whole object passed go = object (λ v. passed (v ∷ []) (λ vs. value_asked (call_method name vs) go))
called_walk (by_block name) whole object passed go = block_walk name go
called_walk by_value whole object passed go = whole (λ v. passed (v ∷ []) (λ vs. value_asked (call_value vs) go))

abbrev mutual
  pub expression_walk : Expression → (Val → Process) → Process
  expression_walk (variable name) go = value_asked (look_up name) go
  expression_walk (constant v) go = go v
  expression_walk (unary op e) go = folded (constant_of (unary op e)) go (expression_walk e (λ v. value_asked (unary_ask op v) go))
  expression_walk (binary op left right) go =
      folded (constant_of (binary op left right)) go (binary_walk op (expression_walk left) (expression_walk right) go)
  expression_walk (chain first links) go = folded (constant_of (chain first links)) go (expression_walk first (λ v. chain_walk v links go))
  expression_walk (conditional test branch otherwise) go =
      expression_walk test (λ v. truth_asked v (expression_walk branch (λ w. step (go w))) (optional_walk silent_undefined otherwise go))
  expression_walk (attribute e name) go = expression_walk e (λ v. value_asked (get_attribute v name) go)
  expression_walk (item e key) go = expression_walk e (λ v. expression_walk key (λ k. value_asked (get_item v k) go))
  expression_walk (slice e start stop by) go =
      expression_walk e (λ v. optional_walk none start (λ a. optional_walk none stop (λ b. optional_walk none by (λ c.
      value_asked (get_slice v a b c) go))))
  expression_walk (list_literal es) go =
      folded (constant_of (list_literal es)) go (expressions_walk es (λ vs. value_asked (build_list vs) go))
  expression_walk (tuple_literal es) go =
      folded (constant_of (tuple_literal es)) go (expressions_walk es (λ vs. value_asked (build_tuple vs) go))
  expression_walk (map_literal ks vs) go =
      folded (constant_of (map_literal ks vs)) go (entries_walk ks (walks_of vs) (λ entries. value_asked (build_map entries) go))
  expression_walk (call callee args) go =
      called_walk (callee_of callee args) (expression_walk callee) (object_walk callee) (λ front. passed_walk front (positional_walks args) (keyword_walks args)) go
  expression_walk (filtered name (given e) args) go =
      expression_walk e (λ v. passed_walk (v ∷ []) (positional_walks args) (keyword_walks args) (λ vs. value_asked (apply_filter name vs) go))
  expression_walk (tested name e args) go =
      expression_walk e (λ v. passed_walk (v ∷ []) (positional_walks args) (keyword_walks args) (λ vs. value_asked (perform_test name vs) go))
  expression_walk _ go = cut_short

  -- the object of a method
  pub object_walk : Expression → (Val → Process) → Process
  object_walk (attribute e name) go = expression_walk e go
  object_walk _ go = cut_short

  -- the walks of the positional arguments, and those of the keyword ones with their names
  pub positional_walks : Arguments → List (Passing Giving Giving)
  positional_walks no_arguments = []
  positional_walks (arguments_more (positional e) args) = alone (expression_walk e) ∷ positional_walks args
  positional_walks (arguments_more (positional_spread e) args) = spreads (expression_walk e) ∷ positional_walks args
  positional_walks (arguments_more _ args) = positional_walks args

  pub keyword_walks : Arguments → List (Passing (List ℕ × Giving) Giving)
  keyword_walks no_arguments = []
  keyword_walks (arguments_more (keyword name e) args) = alone (name, expression_walk e) ∷ keyword_walks args
  keyword_walks (arguments_more (keyword_spread e) args) = spreads (expression_walk e) ∷ keyword_walks args
  keyword_walks (arguments_more _ args) = keyword_walks args

  -- what is left out is a constant
  pub optional_walk : Val → Optional → (Val → Process) → Process
  optional_walk missing absent go = go missing
  optional_walk missing (given e) go = expression_walk e go

  pub expressions_walk : Expressions → (List Val → Process) → Process
  expressions_walk no_expressions go = go []
  expressions_walk (expressions_more e es) go = expression_walk e (λ v. expressions_walk es (λ vs. go (v ∷ vs)))

  -- the walk of each of the expressions
  pub walks_of : Expressions → List ((Val → Process) → Process)
  walks_of no_expressions = []
  walks_of (expressions_more e es) = expression_walk e ∷ walks_of es

  -- each key, and then the walk of its value
  pub entries_walk : Expressions → List ((Val → Process) → Process) → (List (Val × Val) → Process) → Process
  entries_walk (expressions_more k ks) (value_walk ∷ later) go =
      expression_walk k (λ key. value_walk (λ held. entries_walk ks later (λ entries. go ((key, held) ∷ entries))))
  entries_walk _ _ go = go []

  -- the first comparison of a chain, behind the value at its left
  pub chain_walk : Val → Links → (Val → Process) → Process
  chain_walk v no_links go = cut_short
  chain_walk v (links_more op e links) go =
      expression_walk e (λ w. value_asked (compare op v w) (λ holds. linked_walk w holds links go))

  -- the later ones, each behind a test that the one before holds; at the end one step
  pub linked_walk : Val → Val → Links → (Val → Process) → Process
  linked_walk v holds no_links go = step (go holds)
  linked_walk v holds (links_more op e links) go =
      truth_asked holds (expression_walk e (λ w. value_asked (compare op v w) (λ later. linked_walk w later links go))) (step (go holds))

-- one filter, over the value that it is handed
abbrev pub filter_walk : List ℕ → Arguments → Val → Giving
filter_walk name args v go =
    passed_walk (v ∷ []) (positional_walks args) (keyword_walks args) (λ vs. value_asked (apply_filter name vs) go)

-- the filters of a block, one over what the other gives, over a value
abbrev pub filters_walk : Expression → Val → Giving
filters_walk (filtered name absent args) v go = filter_walk name args v go
filters_walk (filtered name (given e) args) v go = filters_walk e v (λ w. filter_walk name args w go)
filters_walk _ v go = cut_short
