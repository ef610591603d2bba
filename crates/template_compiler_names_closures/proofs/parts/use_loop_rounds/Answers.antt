use Rattle.std.proofs.Common.{ap, sym}
use Rattle.template_compiler_names.proofs.Laws.{goes_nowhere, uses_as, uses_on}
use Rattle.template_compiler_names_closures.specs.Units.{part_of, place_in_rounds}
use Rattle.template_compiler_names_closures.specs.declared.parts.Unit.{Unit}
use Rattle.template_compiler_names_closures.proofs.parts.use_loop_rounds.Goals as goal

pub returns-in-Template : goal.returns-in-Template
returns-in-Template c =
    uses_as (λ q. ap (λ (u : Unit). place_in_rounds q (part_of u)) (sym c.in-Template.is)) (goes_nowhere c.args.names.now)

pub returns-in-Block : goal.returns-in-Block
returns-in-Block c =
    uses_as (λ q. ap (λ (u : Unit). place_in_rounds q (part_of u)) (sym c.in-Block.is)) (goes_nowhere c.args.names.now)

pub returns-in-Loop : goal.returns-in-Loop
returns-in-Loop c =
    uses_on c.args.names.now c.use_rounds.new.names c.use_rounds.result
    (λ q. ap (λ (u : Unit). place_in_rounds q (part_of u)) (sym c.in-Loop.is)) c.use_rounds.ensures
