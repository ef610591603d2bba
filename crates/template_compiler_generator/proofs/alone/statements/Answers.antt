use Rattle.std.proofs.Common.{ap, sym, ◌∙◌}
use Rattle.template_compiler_tree.specs.Tree.{no_statements, statements_more}
use Rattle.template_compiler_tree_parts.specs.Listed.{statements_in}
use Rattle.template_compiler_tree_parts.proofs.Trees.{whole_tree}
use Rattle.template_compiler_tree_statements.specs.View.{statement_of}
use Rattle.template_compiler_tree_statements.specs.declared.statements.Stmt.{Stmt}
use Rattle.template_compiler_generator.specs.Alone.{statements_of}
use Rattle.template_compiler_generator.proofs.CallBlocks.{call_alone}
use Rattle.template_compiler_generator.proofs.alone.statements.Goals as goal

pub returns-in-Template : goal.returns-in-Template
returns-in-Template c =
    ap (λ l. statements_in l) c.deref.ensures.value ∙
    sym (ap (λ (s : Stmt). statements_of (statement_of s)) c.in-Template.is ∙ ap (λ t. statements_of t) (whole_tree c.in-Template.n))

pub returns-in-CallBlock : goal.returns-in-CallBlock
returns-in-CallBlock c =
    ap (λ l. statements_in l) c.from_ref-in-CallBlock.ensures.value
    ∙ ap (λ (s : Stmt). statements_more (statement_of s) no_statements) c.in-CallBlock.is
    ∙ sym (ap (λ (s : Stmt). statements_of (statement_of s)) c.in-CallBlock.is ∙ call_alone c.in-CallBlock.field-0)
