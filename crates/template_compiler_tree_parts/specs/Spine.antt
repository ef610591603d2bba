-- The left chain of an expression, which may be as long as the source, and one law for what goes along it.
use Rattle.std.specs.Prelude.{List, [], ◌∷◌, ◌++◌, Option, None, Some}
use Rattle.template_compiler_tree.specs.Tree.{Expression, variable, constant, slice, unary, binary, chain, conditional, filtered, tested, attribute, item, call, list_literal, tuple_literal, map_literal, Optional, absent, given}
pub use Rattle.template_compiler_tree_parts.specs.Left.{optional, left_of}

-- the expression, its left part, that one's left part and so on, the last one first
abbrev mutual
  pub spine_of : Expression → List Expression
  spine_of (slice e start stop step) = spine_of e ++ slice e start stop step ∷ []
  spine_of (binary op left right) = spine_of left ++ binary op left right ∷ []
  spine_of (chain e links) = spine_of e ++ chain e links ∷ []
  spine_of (filtered name value args) = spine_before value ++ filtered name value args ∷ []
  spine_of (tested name e args) = spine_of e ++ tested name e args ∷ []
  spine_of (attribute e name) = spine_of e ++ attribute e name ∷ []
  spine_of (item e key) = spine_of e ++ item e key ∷ []
  spine_of (call e args) = spine_of e ++ call e args ∷ []
  spine_of (variable name) = variable name ∷ []
  spine_of (constant value) = constant value ∷ []
  spine_of (unary op e) = unary op e ∷ []
  spine_of (conditional test first other) = conditional test first other ∷ []
  spine_of (list_literal items) = list_literal items ∷ []
  spine_of (tuple_literal items) = tuple_literal items ∷ []
  spine_of (map_literal keys values) = map_literal keys values ∷ []

  pub spine_before : Optional → List Expression
  spine_before absent = []
  spine_before (given e) = spine_of e

-- what is known of the left part, where there is one
abbrev pub before : {A : Type 0} → (Expression → A) → A → Option Expression → A
before f z None = z
before f z (Some left) = f left
