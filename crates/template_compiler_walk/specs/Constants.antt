-- The constant trees, which are folded: literals, containers of literals, and what operators give for constant trees.
-- Where an operator refuses its operands, the tree is no constant: it runs, and faults then.
use Rattle.std.specs.Prelude.{List, [], ◌∷◌, Option, None, Some, option_and_then, Result, Ok, Err, if◌then◌else◌}
use Rattle.template_values_model.specs.Fault.{Fault}
use Rattle.template_values_model.specs.Val.{Val}
use Rattle.template_values_core.specs.Reads.{is_true}
use Rattle.template_values_forms.specs.Known.{nothing_known}
use Rattle.template_values_operators.specs.Kinds.{list_made}
use Rattle.template_compiler_tree.specs.declared.operators.UnaryOpKind.{UnaryOpKind}
use Rattle.template_compiler_tree.specs.declared.operators.UnaryOpKind.TheVariants.{Not, Neg}
use Rattle.template_compiler_tree.specs.declared.operators.BinOpKind.{BinOpKind}
use Rattle.template_compiler_tree.specs.declared.operators.BinOpKind.TheVariants.{ScAnd, ScOr}
use Rattle.template_compiler_tree.specs.Tree.{Expression, Expressions, Links, constant, unary, binary, chain, list_literal, tuple_literal, map_literal, no_expressions, expressions_more, no_links, links_more}
use Rattle.template_compiler_walk.specs.Operators.{operated, compared, inverted, negated}
use Rattle.template_compiler_walk.specs.Containers.{tuple_made, map_made, pairs_with}

-- what was given, where it was not refused
abbrev pub made : Result Val Fault → Option Val
made (Ok v) = Some v
made (Err fault) = None

-- two things, where both are there
abbrev pub both : {X Y Z : Type 0} → (X → Y → Z) → Option X → Option Y → Option Z
both f (Some x) (Some y) = Some (f x y)
both f _ _ = None

-- the literals
abbrev pub literal_of : Expression → Option Val
literal_of (constant v) = Some v
literal_of _ = None

abbrev pub literals_of : Expressions → Option (List Val)
literals_of no_expressions = Some []
literals_of (expressions_more e es) = both (λ v vs. v ∷ vs) (literal_of e) (literals_of es)

abbrev pub unary_constant : UnaryOpKind → Val → Option Val
unary_constant Not v = made (inverted nothing_known v)
unary_constant Neg v = made (negated v)

-- `and` gives its left side where that is false, `or` where it is true, else the right side
abbrev pub binary_constant : BinOpKind → Val → Val → Option Val
binary_constant ScAnd left right = Some (if is_true left then right else left)
binary_constant ScOr left right = Some (if is_true left then left else right)
binary_constant op left right = made (operated nothing_known op left right)

-- the end of a chain: at the first comparison that is false, or behind the last one
abbrev pub chain_decided : Val → Links → Option Val → Option Val
chain_decided holds no_links rest = Some holds
chain_decided holds (links_more op e links) rest = if is_true holds then rest else Some holds

abbrev mutual
  -- the value of a constant tree
  pub constant_of : Expression → Option Val
  constant_of (constant v) = Some v
  constant_of (list_literal es) = option_and_then (λ vs. made (list_made vs)) (literals_of es)
  constant_of (tuple_literal es) = option_and_then (λ vs. made (tuple_made vs)) (literals_of es)
  constant_of (map_literal ks vs) = option_and_then (λ entries. made (map_made entries)) (both pairs_with (literals_of ks) (literals_of vs))
  constant_of (unary op e) = option_and_then (unary_constant op) (constant_of e)
  constant_of (binary op left right) = option_and_then (λ v. option_and_then (binary_constant op v) (constant_of right)) (constant_of left)
  constant_of (chain first links) = option_and_then (λ v. chain_constant v links) (constant_of first)
  constant_of _ = None

  -- the value of a chain's links behind the value at their left
  pub chain_constant : Val → Links → Option Val
  chain_constant v no_links = None
  chain_constant v (links_more op e links) =
      option_and_then (λ w. option_and_then (λ holds. chain_decided holds links (chain_constant w links))
      (made (compared nothing_known op v w))) (constant_of e)
