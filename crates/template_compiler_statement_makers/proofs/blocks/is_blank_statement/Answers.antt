use Rattle.template_compiler_statement_makers.proofs.Lists.{other_statement}
use Rattle.template_compiler_statement_makers.proofs.blocks.is_blank_statement.Goals as goal

pub returns-in_default : goal.returns-in_default
returns-in_default c = other_statement c.args.statement.now c.in_default.not-EmitRaw
