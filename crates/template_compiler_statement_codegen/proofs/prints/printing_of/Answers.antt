use Rattle.std.proofs.Common.{refl, sym, ap, ◌∙◌}
use Rattle.template_compiler_tree.specs.Tree.{Expression}
use Rattle.template_compiler_tree.specs.View.{expression_of}
use Rattle.template_compiler_tree.specs.declared.calls.Call.{Call as CallNode}
use Rattle.template_compiler_tree.specs.declared.expressions.Expr.{Expr}
use Rattle.template_compiler_tree.specs.declared.span.Spanned.{Spanned}
use Rattle.template_compiler_walk.specs.Statements.{printed_of}
use Rattle.template_compiler_expression_codegen.specs.Calls.{call_of}
use Rattle.template_compiler_expression_codegen.proofs.Trees.{call_is}
use Rattle.template_compiler_statement_codegen.proofs.Writing.{chain_printed}
use Rattle.template_compiler_statement_codegen.proofs.prints.printing_of.Goals as goal

pub returns-in-Call : goal.returns-in-Call
returns-in-Call c =
    c.call_printing.ensures ∙ ap (λ (s : Spanned CallNode). printed_of (call_of s.node)) c.deref.ensures ∙
    ap (λ (t : Expression). printed_of t) (sym (call_is c.args.expr.now c.in-Call.n c.in-Call.n.value.node c.in-Call.is refl))

pub returns-in-Compare : goal.returns-in-Compare
returns-in-Compare c = chain_printed c.in-Compare.field-0.value.node ∙ ap (λ (x : Expr). printed_of (expression_of x)) (sym c.in-Compare.is)
