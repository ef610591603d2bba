use Rattle.std.proofs.Common.{refl, ap, subst}
use Rattle.template_compiler_tree.specs.Tree.{Expression}
use Rattle.template_compiler_tree.specs.declared.expressions.Filter.{Filter as FilterNode}
use Rattle.template_compiler_tree.specs.declared.span.Spanned.{Spanned}
use Rattle.template_compiler_expression_codegen.specs.Filters.{IsLastRunnable}
use Rattle.template_compiler_expression_codegen.proofs.Filtering.{chain_no_filter, puts_no_filter}
use Rattle.template_compiler_expression_codegen.proofs.Trees.{filter_is}
use Rattle.template_compiler_expression_codegen.proofs.filters.put_filter.Goals as goal

pub compile_filter-requires : goal.compile_filter-requires
compile_filter-requires c =
    let f = c.deref.result.now.node in
    let read = ap (λ (x : Spanned FilterNode). x.node) c.deref.ensures in
    let tree = filter_is c.args.filter.now c.in-Filter.n f c.in-Filter.is read in
    subst (λ (x : Expression). IsLastRunnable x) tree c.requires

pub returns-in-Filter-clause-put : goal.returns-in-Filter-clause-put
returns-in-Filter-clause-put c =
    let f = c.deref.result.now.node in
    let read = ap (λ (x : Spanned FilterNode). x.node) c.deref.ensures in
    let tree = filter_is c.args.filter.now c.in-Filter.n f c.in-Filter.is read in
    rw tree c.compile_filter.ensures.put

pub returns-in-Compare-clause-put : goal.returns-in-Compare-clause-put
returns-in-Compare-clause-put c = chain_no_filter c.args.filter.now c.in-Compare.field-0 c.args.code.now c.in-Compare.is

pub returns-in-Var-clause-put : goal.returns-in-Var-clause-put
returns-in-Var-clause-put c = puts_no_filter c.args.filter.now _ c.args.code.now c.in-Var.is refl

pub returns-in-Const-clause-put : goal.returns-in-Const-clause-put
returns-in-Const-clause-put c = puts_no_filter c.args.filter.now _ c.args.code.now c.in-Const.is refl

pub returns-in-Slice-clause-put : goal.returns-in-Slice-clause-put
returns-in-Slice-clause-put c = puts_no_filter c.args.filter.now _ c.args.code.now c.in-Slice.is refl

pub returns-in-UnaryOp-clause-put : goal.returns-in-UnaryOp-clause-put
returns-in-UnaryOp-clause-put c = puts_no_filter c.args.filter.now _ c.args.code.now c.in-UnaryOp.is refl

pub returns-in-BinOp-clause-put : goal.returns-in-BinOp-clause-put
returns-in-BinOp-clause-put c = puts_no_filter c.args.filter.now _ c.args.code.now c.in-BinOp.is refl

pub returns-in-IfExpr-clause-put : goal.returns-in-IfExpr-clause-put
returns-in-IfExpr-clause-put c = puts_no_filter c.args.filter.now _ c.args.code.now c.in-IfExpr.is refl

pub returns-in-Test-clause-put : goal.returns-in-Test-clause-put
returns-in-Test-clause-put c = puts_no_filter c.args.filter.now _ c.args.code.now c.in-Test.is refl

pub returns-in-GetAttr-clause-put : goal.returns-in-GetAttr-clause-put
returns-in-GetAttr-clause-put c = puts_no_filter c.args.filter.now _ c.args.code.now c.in-GetAttr.is refl

pub returns-in-GetItem-clause-put : goal.returns-in-GetItem-clause-put
returns-in-GetItem-clause-put c = puts_no_filter c.args.filter.now _ c.args.code.now c.in-GetItem.is refl

pub returns-in-Call-clause-put : goal.returns-in-Call-clause-put
returns-in-Call-clause-put c = puts_no_filter c.args.filter.now _ c.args.code.now c.in-Call.is refl

pub returns-in-List-clause-put : goal.returns-in-List-clause-put
returns-in-List-clause-put c = puts_no_filter c.args.filter.now _ c.args.code.now c.in-List.is refl

pub returns-in-Tuple-clause-put : goal.returns-in-Tuple-clause-put
returns-in-Tuple-clause-put c = puts_no_filter c.args.filter.now _ c.args.code.now c.in-Tuple.is refl

pub returns-in-Map-clause-put : goal.returns-in-Map-clause-put
returns-in-Map-clause-put c = puts_no_filter c.args.filter.now _ c.args.code.now c.in-Map.is refl
