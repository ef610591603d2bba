use Rattle.std.proofs.Common.{ap, sym}
use Rattle.template_compiler_names_closures.specs.Units.{part_of}
use Rattle.template_compiler_names_closures.specs.declared.parts.Unit.{Unit}
use Rattle.template_compiler_names_needed.specs.Needed.{is_whole}
use Rattle.template_compiler_names_needed.proofs.rounds.is_template.Goals as goal

pub returns-in-Template : goal.returns-in-Template
returns-in-Template c = sym (ap (λ (u : Unit). is_whole (part_of u)) c.in-Template.is)

pub returns-in-Block : goal.returns-in-Block
returns-in-Block c = sym (ap (λ (u : Unit). is_whole (part_of u)) c.in-Block.is)

pub returns-in-Loop : goal.returns-in-Loop
returns-in-Loop c = sym (ap (λ (u : Unit). is_whole (part_of u)) c.in-Loop.is)
