use Rattle.template_machine_environment.proofs.Escaped.{cleared}
use Rattle.template_machine_environment.proofs.registry.Registry.clear.Goals as goal

pub invariant_of-self : goal.invariant_of-self
invariant_of-self c = record { escaped = cleared c.clear.new.self c.clear.ensures }
