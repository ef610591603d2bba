use Rattle.std.proofs.Common.{[], ◌∷◌, ◌++◌, append-nil, sym, ap, ◌∙◌}
use Rattle.template_compiler_tree.specs.declared.span.Spanned.{Spanned}
use Rattle.template_compiler_tree_statements.specs.View.{statement_of}
use Rattle.template_compiler_tree_statements.specs.declared.statements.Block.{Block as BlockNode}
use Rattle.template_compiler_tree_statements.specs.declared.statements.Stmt.{Stmt}
use Rattle.template_compiler_tree_parts.proofs.Others.{no_block}
use Rattle.template_compiler_tree_parts.proofs.BodyTrees.{block_tree}
use Rattle.template_compiler_sources.specs.Own.{own_name}
use Rattle.template_compiler_sources.specs.Waiting.{texts_in}
use Rattle.template_compiler_sources.proofs.Blocks.{none_picked}
use Rattle.template_compiler_sources.proofs.Lists.{texts_push}
use Rattle.template_compiler_sources.proofs.names.take_name.Goals as goal

pub returns-in_ok-push-in-Block : goal.returns-in_ok-push-in-Block
returns-in_ok-push-in-Block c =
    ap texts_in c.in_ok-push-in-Block.ensures.items ∙ texts_push c.args.names.now.items c.deref.result.now.node.name ∙
    ap (λ (x : Spanned BlockNode). texts_in c.args.names.now.items ++ x.node.name.now ∷ []) c.deref.ensures ∙
    ap (λ t. texts_in c.args.names.now.items ++ own_name t) (sym (block_tree c.in-Block.n)) ∙
    ap (λ (s : Stmt). texts_in c.args.names.now.items ++ own_name (statement_of s)) (sym c.in-Block.is)

pub returns-in_default : goal.returns-in_default
returns-in_default c =
    sym (append-nil (texts_in c.args.names.now.items)) ∙
    ap (λ l. texts_in c.args.names.now.items ++ l) (sym (none_picked (statement_of c.args.statement.now) (no_block c.args.statement.now c.in_default.not-Block)))
