use Rattle.std.proofs.Common.{sym, ap}
use Rattle.template_compiler_tree.specs.View.{expression_of}
use Rattle.template_compiler_tree.specs.declared.expressions.Expr.{Expr}
use Rattle.template_compiler_walk.specs.Statements.{name_text}
use Rattle.template_compiler_statement_codegen.proofs.Declaring.{nameless}
use Rattle.template_compiler_statement_codegen.proofs.macros.parameter_name.Goals as goal

pub returns-in-Var : goal.returns-in-Var
returns-in-Var c = ap (λ (x : Expr). name_text (expression_of x)) (sym c.in-Var.is)

pub returns-in_default : goal.returns-in_default
returns-in_default c = nameless c.args.argument.now c.in_default.not-Var
