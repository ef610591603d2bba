use Rattle.template_compiler_folding.proofs.Joined.{other_than_literal}
use Rattle.template_compiler_folding.proofs.literal_values.literal.Goals as goal

pub returns-in_default : goal.returns-in_default
returns-in_default c = other_than_literal c.args.expr.now c.in_default.not-Const
