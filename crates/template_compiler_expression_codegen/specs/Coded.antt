-- The left parts of an expression in the order of their code. There may be as many as the source is long.
use Rattle.std.specs.Prelude.{List, [], ◌∷◌, ◌++◌, Option, None, Some}
use Rattle.template_compiler_tree.specs.Tree.{Expression, variable, constant, slice, unary, binary, chain, conditional, filtered, tested, attribute, item, call, list_literal, tuple_literal, map_literal, Optional, absent, given}
use Rattle.template_compiler_tree_parts.specs.Spine.{left_of}
use Rattle.template_compiler_walk.specs.Expressions.{Callee, by_name, by_method, by_block, by_value, callee_of}

-- what is called: a name or a block, a method of an object, or another value
abbrev pub of_called : {A : Type 0} → Callee → A → A → A → A
of_called (by_name name) named object value = named
of_called (by_block name) named object value = named
of_called (by_method name) named object value = object
of_called by_value named object value = value

abbrev pub object_of : Expression → Option Expression
object_of (attribute e name) = Some e
object_of _ = None

-- the left part whose code stands first in the expression's; of a call it is none where a name or a block is called, the
-- object where a method is, and else what is called
abbrev pub coded_left : Expression → Option Expression
coded_left (call e args) = of_called (callee_of e args) None (object_of e) (Some e)
coded_left e = left_of e

-- the expression, the left part whose code stands first in its own, that one's and so on, the last one first
abbrev mutual
  pub coded_spine : Expression → List Expression
  coded_spine (slice e start stop step) = coded_spine e ++ slice e start stop step ∷ []
  coded_spine (binary op left right) = coded_spine left ++ binary op left right ∷ []
  coded_spine (chain e links) = coded_spine e ++ chain e links ∷ []
  coded_spine (filtered name value args) = coded_before value ++ filtered name value args ∷ []
  coded_spine (tested name e args) = coded_spine e ++ tested name e args ∷ []
  coded_spine (attribute e name) = coded_spine e ++ attribute e name ∷ []
  coded_spine (item e key) = coded_spine e ++ item e key ∷ []
  coded_spine (call e args) = of_called (callee_of e args) [] (coded_object e) (coded_spine e) ++ call e args ∷ []
  coded_spine (variable name) = variable name ∷ []
  coded_spine (constant value) = constant value ∷ []
  coded_spine (unary op e) = unary op e ∷ []
  coded_spine (conditional test first other) = conditional test first other ∷ []
  coded_spine (list_literal items) = list_literal items ∷ []
  coded_spine (tuple_literal items) = tuple_literal items ∷ []
  coded_spine (map_literal keys values) = map_literal keys values ∷ []

  pub coded_object : Expression → List Expression
  coded_object (attribute e name) = coded_spine e
  coded_object _ = []

  pub coded_before : Optional → List Expression
  coded_before absent = []
  coded_before (given e) = coded_spine e
