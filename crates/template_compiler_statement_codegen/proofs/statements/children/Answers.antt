use Rattle.std.proofs.Common.{ap, subst, sym, ◌∙◌}
use Rattle.template_compiler_tree_statements.specs.View.{statement_of}
use Rattle.template_compiler_tree_statements.specs.declared.statements.Stmt.{Stmt}
use Rattle.template_compiler_tree_parts.specs.Listed.{statements_in}
use Rattle.template_compiler_tree_parts.proofs.Trees.{whole_tree}
use Rattle.template_compiler_statement_codegen.specs.Listed.{IsRunnableTree, body_in}
use Rattle.template_compiler_statement_codegen.proofs.Nodes.{call_no_tree}
use Rattle.template_compiler_statement_codegen.proofs.statements.children.Goals as goal

pub returns-in-Template : goal.returns-in-Template
returns-in-Template c =
    ap (λ l. statements_in l) c.deref.ensures.value ∙
    sym (ap (λ (s : Stmt). body_in (statement_of s)) c.in-Template.is ∙ ap (λ t. body_in t) (whole_tree c.in-Template.n))

pub unreachable-requires-in-CallBlock : goal.unreachable-requires-in-CallBlock
unreachable-requires-in-CallBlock c =
    call_no_tree c.in-CallBlock.field-0 (subst (λ (s : Stmt). IsRunnableTree (statement_of s)) c.in-CallBlock.is c.requires)

pub unreachable-requires : goal.unreachable-requires
unreachable-requires c = subst (λ (s : Stmt). IsRunnableTree (statement_of s)) c.in-EmitExpr.is c.requires

pub unreachable-requires-in-EmitRaw : goal.unreachable-requires-in-EmitRaw
unreachable-requires-in-EmitRaw c = subst (λ (s : Stmt). IsRunnableTree (statement_of s)) c.in-EmitRaw.is c.requires

pub unreachable-requires-in-ForLoop : goal.unreachable-requires-in-ForLoop
unreachable-requires-in-ForLoop c = subst (λ (s : Stmt). IsRunnableTree (statement_of s)) c.in-ForLoop.is c.requires

pub unreachable-requires-in-IfCond : goal.unreachable-requires-in-IfCond
unreachable-requires-in-IfCond c = subst (λ (s : Stmt). IsRunnableTree (statement_of s)) c.in-IfCond.is c.requires

pub unreachable-requires-in-WithBlock : goal.unreachable-requires-in-WithBlock
unreachable-requires-in-WithBlock c = subst (λ (s : Stmt). IsRunnableTree (statement_of s)) c.in-WithBlock.is c.requires

pub unreachable-requires-in-Set : goal.unreachable-requires-in-Set
unreachable-requires-in-Set c = subst (λ (s : Stmt). IsRunnableTree (statement_of s)) c.in-Set.is c.requires

pub unreachable-requires-in-SetBlock : goal.unreachable-requires-in-SetBlock
unreachable-requires-in-SetBlock c = subst (λ (s : Stmt). IsRunnableTree (statement_of s)) c.in-SetBlock.is c.requires

pub unreachable-requires-in-AutoEscape : goal.unreachable-requires-in-AutoEscape
unreachable-requires-in-AutoEscape c = subst (λ (s : Stmt). IsRunnableTree (statement_of s)) c.in-AutoEscape.is c.requires

pub unreachable-requires-in-FilterBlock : goal.unreachable-requires-in-FilterBlock
unreachable-requires-in-FilterBlock c = subst (λ (s : Stmt). IsRunnableTree (statement_of s)) c.in-FilterBlock.is c.requires

pub unreachable-requires-in-Block : goal.unreachable-requires-in-Block
unreachable-requires-in-Block c = subst (λ (s : Stmt). IsRunnableTree (statement_of s)) c.in-Block.is c.requires

pub unreachable-requires-in-Import : goal.unreachable-requires-in-Import
unreachable-requires-in-Import c = subst (λ (s : Stmt). IsRunnableTree (statement_of s)) c.in-Import.is c.requires

pub unreachable-requires-in-FromImport : goal.unreachable-requires-in-FromImport
unreachable-requires-in-FromImport c = subst (λ (s : Stmt). IsRunnableTree (statement_of s)) c.in-FromImport.is c.requires

pub unreachable-requires-in-Extends : goal.unreachable-requires-in-Extends
unreachable-requires-in-Extends c = subst (λ (s : Stmt). IsRunnableTree (statement_of s)) c.in-Extends.is c.requires

pub unreachable-requires-in-Include : goal.unreachable-requires-in-Include
unreachable-requires-in-Include c = subst (λ (s : Stmt). IsRunnableTree (statement_of s)) c.in-Include.is c.requires

pub unreachable-requires-in-Macro : goal.unreachable-requires-in-Macro
unreachable-requires-in-Macro c = subst (λ (s : Stmt). IsRunnableTree (statement_of s)) c.in-Macro.is c.requires

pub unreachable-requires-in-Continue : goal.unreachable-requires-in-Continue
unreachable-requires-in-Continue c = subst (λ (s : Stmt). IsRunnableTree (statement_of s)) c.in-Continue.is c.requires

pub unreachable-requires-in-Break : goal.unreachable-requires-in-Break
unreachable-requires-in-Break c = subst (λ (s : Stmt). IsRunnableTree (statement_of s)) c.in-Break.is c.requires

pub unreachable-requires-in-Do : goal.unreachable-requires-in-Do
unreachable-requires-in-Do c = subst (λ (s : Stmt). IsRunnableTree (statement_of s)) c.in-Do.is c.requires
