use Rattle.std.proofs.Common.{[], ◌∷◌, ◌++◌, append-nil, ap, sym, ◌∙◌}
use Rattle.template_compiler_tree.specs.View.{expression_of}
use Rattle.template_compiler_tree.specs.declared.span.Spanned.{Spanned}
use Rattle.template_compiler_tree_statements.specs.View.{statement_of}
use Rattle.template_compiler_tree_statements.specs.declared.statements.Block.{Block as BlockNode}
use Rattle.template_compiler_tree_statements.specs.declared.statements.ForLoop.{ForLoop as ForLoopNode}
use Rattle.template_compiler_tree_parts.specs.Listed.{statements_in}
use Rattle.template_compiler_tree_parts.proofs.Others.{no_block, no_loop, no_template}
use Rattle.template_compiler_tree_parts.proofs.BodyTrees.{block_tree}
use Rattle.template_compiler_tree_parts.proofs.Trees.{for_tree, whole_tree}
use Rattle.template_compiler_names_closures.specs.Bodies.{own_part}
use Rattle.template_compiler_names_closures.specs.Units.{block_body, parts_in, rounds_of}
use Rattle.template_compiler_names_closures.proofs.Taking.{no_part, none_picked, own_taken}
use Rattle.template_compiler_names_closures.proofs.listing.take_own.Goals as goal

pub returns-in-Template : goal.returns-in-Template
returns-in-Template c =
    own_taken _ _ _ c.in-Template.is (sym (ap (λ t. own_part t) (whole_tree c.in-Template.n))) c.take.result c.take.ensures

pub returns-in-Block : goal.returns-in-Block
returns-in-Block c =
    let own = ap (λ (x : Spanned BlockNode). block_body (statements_in x.node.body.items) ∷ []) c.deref.ensures ∙
    sym (ap (λ t. own_part t) (block_tree c.in-Block.n)) in
    own_taken _ _ _ c.in-Block.is own c.take-in-Block.result c.take-in-Block.ensures

pub returns-in-ForLoop : goal.returns-in-ForLoop
returns-in-ForLoop c =
    let own = ap (λ (x : Spanned ForLoopNode). rounds_of x.node.recursive (expression_of x.node.target) (statements_in x.node.body.items))
    c.deref-in-ForLoop.ensures ∙
    sym (ap (λ t. own_part t) (for_tree c.in-ForLoop.n)) in
    own_taken _ _ _ c.in-ForLoop.is own c.take_rounds.result c.take_rounds.ensures

pub returns-in_default : goal.returns-in_default
returns-in_default c =
    let s = c.args.statement.now in
    let other = no_part (statement_of s) (no_template s c.in_default.not-Template) (no_block s c.in_default.not-Block) (no_loop s c.in_default.not-ForLoop) in
    sym (append-nil (parts_in c.args.found.now.items)) ∙
    ap (λ l. parts_in c.args.found.now.items ++ l) (sym (none_picked (statement_of s) other))
