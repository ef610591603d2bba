use Rattle.template_machine_environment.proofs.Escaped.{inserted}
use Rattle.template_machine_environment.proofs.registry.Registry.insert.Goals as goal

pub invariant_of-self : goal.invariant_of-self
invariant_of-self c = record {
  escaped = inserted c.insert.result c.args.template c.args.self.now.templates c.insert.new.self
      c.requires c.insert.ensures.stands c.insert.ensures.unchanged c.args.self.now.escaped;
}
