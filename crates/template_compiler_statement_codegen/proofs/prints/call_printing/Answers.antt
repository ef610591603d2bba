use Rattle.std.proofs.Common.{sym, ap, ◌∙◌}
use Rattle.template_compiler_tree.specs.CallView.{called}
use Rattle.template_compiler_tree.specs.Kinds.{Called}
use Rattle.template_compiler_tree.specs.View.{arguments_in, expression_of}
use Rattle.template_compiler_tree.specs.declared.calls.CallType.{CallType}
use Rattle.template_compiler_statement_codegen.proofs.Writing.{call_printed, printed_called}
use Rattle.template_compiler_statement_codegen.proofs.prints.call_printing.Goals as goal

pub returns-in-Function : goal.returns-in-Function
returns-in-Function c =
    let args = arguments_in c.args.call.now.args.items in
    c.named_printing.ensures ∙ ap (λ (t : CallType). printed_called (called t) args) (sym c.in-Function.is) ∙
    ap (λ (k : Called). printed_called k args) c.identify_call.ensures ∙ call_printed (expression_of c.args.call.now.expr) args

pub returns-in-Method : goal.returns-in-Method
returns-in-Method c =
    let args = arguments_in c.args.call.now.args.items in
    ap (λ (t : CallType). printed_called (called t) args) (sym c.in-Method.is) ∙
    ap (λ (k : Called). printed_called k args) c.identify_call.ensures ∙ call_printed (expression_of c.args.call.now.expr) args

pub returns-in-Block : goal.returns-in-Block
returns-in-Block c =
    let args = arguments_in c.args.call.now.args.items in
    ap (λ (t : CallType). printed_called (called t) args) (sym c.in-Block.is) ∙
    ap (λ (k : Called). printed_called k args) c.identify_call.ensures ∙ call_printed (expression_of c.args.call.now.expr) args

pub returns-in-Object : goal.returns-in-Object
returns-in-Object c =
    let args = arguments_in c.args.call.now.args.items in
    ap (λ (t : CallType). printed_called (called t) args) (sym c.in-Object.is) ∙
    ap (λ (k : Called). printed_called k args) c.identify_call.ensures ∙ call_printed (expression_of c.args.call.now.expr) args
