-- Nodes that have no body yet, and what macros declare, as contracts see them.
use Rattle.std.specs.Prelude.{Bool}
use Rattle.std.specs.Global.{Box}
use Rattle.template_compiler_tree.specs.ExpressionPlaces.{places_in}
use Rattle.template_compiler_tree.specs.View.{expressions_in}
use Rattle.template_compiler_tree.specs.declared.span.Spanned.{Spanned}
use Rattle.template_compiler_tree_statements.specs.declared.statements.ForLoop.{ForLoop}
use Rattle.template_compiler_tree_statements.specs.declared.statements.Macro.{Macro}
use Rattle.template_compiler_tree_statements.specs.declared.statements.SetBlock.{SetBlock}
use Rattle.template_compiler_grammar.specs.Nodes.{Node, OptionalNode, placed}
use Rattle.template_compiler_grammar.specs.TemplateNodes.{PlacedParameters}
use Rattle.template_compiler_grammar.specs.Views.{node_of, optional_node_in}

-- a loop: its target, what it goes over, the condition on its items, and whether it is recursive
abbrev pub loop_head : Box (Spanned ForLoop) → Node × Node × OptionalNode × Bool
loop_head n =
    (node_of n.value.node.target, node_of n.value.node.iter, optional_node_in n.value.node.filter_expr, n.value.node.recursive)

-- a set block: its target and its filters
abbrev pub set_block_of : Box (Spanned SetBlock) → Node × OptionalNode
set_block_of n = (node_of n.value.node.target, optional_node_in n.value.node.filter)

-- a macro: its arguments, and the defaults of the last of them
abbrev pub declared_in : Macro → PlacedParameters
declared_in n = placed (expressions_in n.args.items, expressions_in n.defaults.items) (places_in n.args.items, places_in n.defaults.items)
