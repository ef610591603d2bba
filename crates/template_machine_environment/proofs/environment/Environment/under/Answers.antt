use Rattle.template_machine_environment.proofs.Escaped.{cleared}
use Rattle.template_machine_environment.proofs.environment.Environment.under.Goals as goal

pub invariant_of-result : goal.invariant_of-result
invariant_of-result g c = record { escaped = cleared c.new.result c.new.ensures }
