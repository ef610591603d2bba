-- Branches with one more at the end.
use Rattle.std.proofs.Common.{◌≡◌, List, [], ◌∷◌, ◌++◌, refl, sym, ap, ◌∙◌}
use Rattle.std.specs.Global.{Box}
use Rattle.template_compiler_tree.specs.declared.span.Span.{Span}
use Rattle.template_compiler_tree.specs.declared.span.Spanned.{Spanned}
use Rattle.template_compiler_tree_statements.specs.declared.statements.IfCond.{IfCond}
use Rattle.template_compiler_tree_statements.specs.declared.statements.Stmt.{Stmt}
use Rattle.template_compiler_tokens.specs.Places.{until}
use Rattle.template_compiler_grammar.specs.TemplateTrees.{branches_more}
use Rattle.template_compiler_grammar.specs.Nodes.{placed}
use Rattle.template_compiler_grammar.specs.TemplateNodes.{PlacedStatements, and_placed_branch, and_placed_statement, branched_node, condition_node, no_placed_statements}
use Rattle.template_compiler_grammar.specs.Views.{statement_node_of}
use Rattle.template_compiler_statement_makers.specs.Branches.{branch_in, branches_in}
use Rattle.template_compiler_statement_makers.specs.Listed.{statement_nodes_in}

pub branches_push : (xs : List (Box (Spanned IfCond))) (b : Box (Spanned IfCond)) →
    branches_in (xs ++ b ∷ []) ≡ and_placed_branch (branches_in xs) b.value.span (branch_in b)
branches_push [] b = refl
branches_push (x ∷ xs) b =
    ap (λ bs. placed (branches_more (branch_in x).tree.0 (branch_in x).tree.1 bs.tree) ((x.value.span, (branch_in x).places) ∷ bs.places))
    (branches_push xs b)

-- a branch as the one statement of a body
abbrev alone : Box (Spanned IfCond) → PlacedStatements → Span → PlacedStatements
alone b last whole = and_placed_statement no_placed_statements (condition_node (branch_in b) last (until b.value.span whole))

-- the last branch is that of the body before it
branched_push : (xs : List (Box (Spanned IfCond))) (b : Box (Spanned IfCond)) (last : PlacedStatements) (whole : Span) →
    branched_node (branches_in (xs ++ b ∷ [])) last whole ≡ branched_node (branches_in xs) (alone b last whole) whole
branched_push [] b last whole = refl
branched_push (x ∷ xs) b last whole = ap (λ ss. alone x ss whole) (branched_push xs b last whole)

-- which is what it was put in
pub branch_put : (xs ys : List (Box (Spanned IfCond))) (b : Box (Spanned IfCond)) (last body : List Stmt) (s : Stmt) (span whole : Span) →
    xs ≡ ys ++ b ∷ [] → span ≡ until b.value.span whole → statement_node_of s ≡ condition_node (branch_in b) (statement_nodes_in last) span →
    body ≡ s ∷ [] →
    branched_node (branches_in ys) (statement_nodes_in body) whole ≡ branched_node (branches_in xs) (statement_nodes_in last) whole
branch_put xs ys b last body s span whole e f g h =
    let made : statement_nodes_in body ≡ alone b (statement_nodes_in last) whole =
    ap statement_nodes_in h ∙ ap (λ n. and_placed_statement no_placed_statements n)
    (g ∙ ap (λ span. condition_node (branch_in b) (statement_nodes_in last) span) f) in
    ap (λ ss. branched_node (branches_in ys) ss whole) made ∙
    sym (ap (λ zs. branched_node (branches_in zs) (statement_nodes_in last) whole) e ∙ branched_push ys b (statement_nodes_in last) whole)
