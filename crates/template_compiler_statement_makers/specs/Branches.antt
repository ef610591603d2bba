-- Conditions with their bodies, as contracts see them.
use Rattle.std.specs.Prelude.{List, [], ◌∷◌}
use Rattle.std.specs.Global.{Box}
use Rattle.template_compiler_tree.specs.View.{expression_of}
use Rattle.template_compiler_tree.specs.ExpressionPlaces.{places_of}
use Rattle.template_compiler_tree.specs.NodePlaces.{Parts, parts_more}
use Rattle.template_compiler_tree.specs.declared.span.Span.{Span}
use Rattle.template_compiler_tree.specs.declared.span.Spanned.{Spanned}
use Rattle.template_compiler_tree_statements.specs.declared.statements.IfCond.{IfCond}
use Rattle.template_compiler_grammar.specs.TemplateTrees.{Branches, no_branches, branches_more}
use Rattle.template_compiler_grammar.specs.Nodes.{placed}
use Rattle.template_compiler_grammar.specs.TemplateNodes.{PlacedBranch, PlacedBranches}
use Rattle.template_compiler_grammar.specs.TreeStatements.{places_of_statements}
use Rattle.template_compiler_statement_makers.specs.Listed.{statements_in}

-- a condition with its body; what stands for the other case comes later
abbrev pub branch_in : Box (Spanned IfCond) → PlacedBranch
branch_in b =
    placed (expression_of b.value.node.expr, statements_in b.value.node.true_body.items)
    (parts_more (places_of b.value.node.expr) (places_of_statements b.value.node.true_body.items))

abbrev pub branch_trees : List (Box (Spanned IfCond)) → Branches
branch_trees [] = no_branches
branch_trees (b ∷ rest) = branches_more (branch_in b).tree.0 (branch_in b).tree.1 (branch_trees rest)

-- each with where it begins
abbrev pub branch_places : List (Box (Spanned IfCond)) → List (Span × Parts)
branch_places [] = []
branch_places (b ∷ rest) = (b.value.span, (branch_in b).places) ∷ branch_places rest

abbrev pub branches_in : List (Box (Spanned IfCond)) → PlacedBranches
branches_in bs = placed (branch_trees bs) (branch_places bs)
