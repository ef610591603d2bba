use Rattle.template_machine_environment.proofs.Escaped.{removed}
use Rattle.template_machine_environment.proofs.registry.Registry.remove.Goals as goal

pub invariant_of-self : goal.invariant_of-self
invariant_of-self c = record {
  escaped = removed c.args.name.now c.args.self.now.templates c.remove.new.self c.remove.ensures c.args.self.now.escaped;
}
