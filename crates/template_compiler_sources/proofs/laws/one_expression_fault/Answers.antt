use Rattle.template_compiler_sources.proofs.Faults.{one_expression_fault, some_expression_fault}
use Rattle.template_compiler_sources.proofs.laws.one_expression_fault.Goals as goal

pub returns-clause-one : goal.returns-clause-one
returns-clause-one c = one_expression_fault

pub returns-clause-some : goal.returns-clause-some
returns-clause-some c = some_expression_fault
