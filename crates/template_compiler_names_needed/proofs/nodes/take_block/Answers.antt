use Rattle.std.proofs.Common.{[], ◌∷◌, ◌++◌, append-nil, sym, ap, ◌∙◌}
use Rattle.template_compiler_tree.specs.declared.span.Spanned.{Spanned}
use Rattle.template_compiler_tree_statements.specs.View.{statement_of}
use Rattle.template_compiler_tree_statements.specs.declared.statements.Block.{Block as BlockNode}
use Rattle.template_compiler_tree_statements.specs.declared.statements.Stmt.{Stmt}
use Rattle.template_compiler_tree_parts.proofs.Others.{no_block}
use Rattle.template_compiler_tree_parts.proofs.BodyTrees.{block_tree}
use Rattle.template_compiler_names_needed.specs.Seen.{own_blocks, tree_of, trees_in}
use Rattle.template_compiler_names_needed.proofs.Lists.{trees_push}
use Rattle.template_compiler_names_needed.proofs.BlockTaking.{none_picked}
use Rattle.template_compiler_names_needed.proofs.nodes.take_block.Goals as goal

pub returns-in_ok-push-in-Block : goal.returns-in_ok-push-in-Block
returns-in_ok-push-in-Block c =
    ap trees_in c.in_ok-push-in-Block.ensures.items ∙ trees_push c.args.nodes.now.items _ ∙
    ap (λ (x : Spanned BlockNode). trees_in c.args.nodes.now.items ++ tree_of x.node ∷ []) c.deref.ensures ∙
    ap (λ t. trees_in c.args.nodes.now.items ++ own_blocks t) (sym (block_tree c.in-Block.n)) ∙
    ap (λ (s : Stmt). trees_in c.args.nodes.now.items ++ own_blocks (statement_of s)) (sym c.in-Block.is)

pub returns-in_default : goal.returns-in_default
returns-in_default c =
    sym (append-nil (trees_in c.args.nodes.now.items)) ∙
    ap (λ l. trees_in c.args.nodes.now.items ++ l) (sym (none_picked (statement_of c.args.statement.now) (no_block c.args.statement.now c.in_default.not-Block)))
