use Rattle.std.proofs.Common.{sym, ap, ◌∙◌}
use Rattle.template_compiler_tree_statements.specs.View.{statement_of}
use Rattle.template_compiler_tree_statements.specs.declared.statements.Stmt.{Stmt}
use Rattle.template_compiler_tree_parts.proofs.Others.{no_call_block, no_macro, no_template}
use Rattle.template_compiler_tree_parts.proofs.BodyTrees.{call_tree}
use Rattle.template_compiler_names_needed.specs.Seen.{is_entered}
use Rattle.template_compiler_names_needed.proofs.BlockTaking.{entered}
use Rattle.template_compiler_names_needed.proofs.nodes.BlockStatementsPicks.enters.Goals as goal

pub returns-in-CallBlock : goal.returns-in-CallBlock
returns-in-CallBlock c = sym (ap (λ (s : Stmt). is_entered (statement_of s)) c.in-CallBlock.is ∙ ap (λ t. is_entered t) (call_tree c.in-CallBlock.field-0))

pub returns-in_default : goal.returns-in_default
returns-in_default c =
    let s = c.args.statement.now in
    sym (entered (statement_of s) (no_template s c.in_default.not-Template) (no_macro s c.in_default.not-Macro) (no_call_block s c.in_default.not-CallBlock))
