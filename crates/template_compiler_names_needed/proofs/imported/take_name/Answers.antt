use Rattle.std.proofs.Common.{IfOk, refl, sym, subst}
use Rattle.template_compiler_tree.specs.View.{expression_of}
use Rattle.template_compiler_tree.specs.declared.expressions.Expr.{Expr}
use Rattle.template_compiler_walk.specs.Imported.{is_name}
use Rattle.template_compiler_names_needed.specs.Needed.{Takes}
use Rattle.template_compiler_names_needed.proofs.Taking.{chain_name, no_name}
use Rattle.template_compiler_names_needed.proofs.imported.take_name.Goals as goal

pub returns-in-Var : goal.returns-in-Var
returns-in-Var c =
    subst (λ (e : Expr). IfOk c.put_name.result (λ _. Takes (λ q. is_name q (expression_of e)) c.args.names.now.items c.put_name.new.names.items)) (sym c.in-Var.is)
    c.put_name.ensures

pub returns-in-Const : goal.returns-in-Const
returns-in-Const c = no_name c.args.names.now.items c.in-Const.is (λ q. refl)

pub returns-in-Slice : goal.returns-in-Slice
returns-in-Slice c = no_name c.args.names.now.items c.in-Slice.is (λ q. refl)

pub returns-in-UnaryOp : goal.returns-in-UnaryOp
returns-in-UnaryOp c = no_name c.args.names.now.items c.in-UnaryOp.is (λ q. refl)

pub returns-in-BinOp : goal.returns-in-BinOp
returns-in-BinOp c = no_name c.args.names.now.items c.in-BinOp.is (λ q. refl)

pub returns-in-IfExpr : goal.returns-in-IfExpr
returns-in-IfExpr c = no_name c.args.names.now.items c.in-IfExpr.is (λ q. refl)

pub returns-in-Filter : goal.returns-in-Filter
returns-in-Filter c = no_name c.args.names.now.items c.in-Filter.is (λ q. refl)

pub returns-in-Test : goal.returns-in-Test
returns-in-Test c = no_name c.args.names.now.items c.in-Test.is (λ q. refl)

pub returns-in-GetAttr : goal.returns-in-GetAttr
returns-in-GetAttr c = no_name c.args.names.now.items c.in-GetAttr.is (λ q. refl)

pub returns-in-GetItem : goal.returns-in-GetItem
returns-in-GetItem c = no_name c.args.names.now.items c.in-GetItem.is (λ q. refl)

pub returns-in-Call : goal.returns-in-Call
returns-in-Call c = no_name c.args.names.now.items c.in-Call.is (λ q. refl)

pub returns-in-List : goal.returns-in-List
returns-in-List c = no_name c.args.names.now.items c.in-List.is (λ q. refl)

pub returns-in-Tuple : goal.returns-in-Tuple
returns-in-Tuple c = no_name c.args.names.now.items c.in-Tuple.is (λ q. refl)

pub returns-in-Map : goal.returns-in-Map
returns-in-Map c = no_name c.args.names.now.items c.in-Map.is (λ q. refl)

pub returns-in-Compare : goal.returns-in-Compare
returns-in-Compare c = no_name c.args.names.now.items c.in-Compare.is (λ q. chain_name q c.in-Compare.field-0)
