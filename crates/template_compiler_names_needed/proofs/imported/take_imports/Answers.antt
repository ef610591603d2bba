use Rattle.std.proofs.Common.{IfOk, Option, List, ◌||◌, sym, ap, ◌∙◌}
use Rattle.template_compiler_tree.specs.declared.expressions.Expr.{Expr}
use Rattle.template_compiler_tree.specs.declared.span.Spanned.{Spanned}
use Rattle.template_compiler_tree_statements.specs.View.{imports_in, statement_of}
use Rattle.template_compiler_tree_statements.specs.declared.statements.FromImport.{FromImport as FromImportNode}
use Rattle.template_compiler_tree_statements.specs.declared.statements.Stmt.{Stmt}
use Rattle.template_compiler_tree_parts.proofs.Others.{no_import}
use Rattle.template_compiler_walk.specs.Imported.{is_one_of}
use Rattle.template_compiler_names.specs.Among.{is_among}
use Rattle.template_compiler_names.proofs.Laws.{or_false}
use Rattle.template_compiler_names_needed.specs.Needed.{Takes, own_imports}
use Rattle.template_compiler_names_needed.proofs.Taking.{none_picked, takes_as}
use Rattle.template_compiler_names_needed.proofs.imported.take_imports.Goals as goal

pub returns-in-FromImport : goal.returns-in-FromImport
returns-in-FromImport c =
    let read = c.deref-in-FromImport.ensures.value ∙ ap (λ (x : Spanned FromImportNode). x.node.names.items) c.deref.ensures in
    takes_as c.args.names.now.items c.take_names.new.names.items c.take_names.result
    (λ q. ap (λ (xs : List (Expr × Option Expr)). is_one_of q (imports_in xs)) read ∙ ap (λ (s : Stmt). own_imports (statement_of s) q) (sym c.in-FromImport.is))
    c.take_names.ensures

pub returns-in_default : goal.returns-in_default
returns-in_default c = λ q.
    sym (or_false (is_among c.args.names.now.items q)) ∙
    ap (λ b. is_among c.args.names.now.items q || b) (sym (none_picked q (statement_of c.args.statement.now) (no_import c.args.statement.now c.in_default.not-FromImport)))
