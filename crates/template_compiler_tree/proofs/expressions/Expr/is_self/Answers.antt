use Rattle.template_compiler_tree.proofs.Arms.{other_than_name}
use Rattle.template_compiler_tree.proofs.expressions.Expr.is_self.Goals as goal

pub returns-in_default : goal.returns-in_default
returns-in_default c = other_than_name c.args.self.now c.in_default.not-Var
