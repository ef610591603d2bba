-- What a node of an expression makes of the constant of its left part.
use Rattle.std.specs.Prelude.{Option, option_and_then}
use Rattle.template_values_model.specs.Val.{Val}
use Rattle.template_compiler_tree.specs.Tree.{Expression, Links, no_links, links_more, binary, chain}
use Rattle.template_compiler_walk.specs.Constants.{constant_of, chain_constant}
use Rattle.template_compiler_folding.specs.Folding.{binary_folded}

-- the value of a constant tree, of which the left part has the value or none
abbrev pub node_constant : Option Val → Expression → Option Val
node_constant left (binary op l right) = binary_folded op left (constant_of right)
node_constant left (chain first links) = option_and_then (λ v. chain_constant v links) left
node_constant left e = constant_of e

-- the constant of a chain that goes on, from the last truth, and the side at the left of what is left
abbrev pub constant_from : Option Val → Option Val → Links → Option Val
constant_from holds left no_links = holds
constant_from holds left (links_more op e links) = option_and_then (λ v. chain_constant v (links_more op e links)) left
