use Rattle.template_machine_environment.proofs.starting.unit.Goals as goal

pub returns-clause-unit : goal.returns-clause-unit
returns-clause-unit c = λ i. record {
  name = c.name.ensures i;
  code = c.instructions.ensures.code i;
  escape = c.initial_auto_escape.ensures.escape i;
  blocks = c.blocks-2.ensures i;
}
