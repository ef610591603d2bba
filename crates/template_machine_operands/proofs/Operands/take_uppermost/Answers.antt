use Rattle.std.proofs.Common.{reverse, ◌∙◌}
use Rattle.template_machine_operands.specs.Operands.{runs_in}
use Rattle.template_machine_operands.proofs.Counting.{filled, uppermost_there}
use Rattle.template_machine_operands.proofs.Operands.take_uppermost.Goals as goal

pub returns-clause-none : goal.returns-clause-none
returns-clause-none c =
    let held = c.loop-self.self in
    uppermost_there c.take.result held.values.items (runs_in (reverse held.runs.items)) _
    (λ none. filled _ _ c.is_empty.ensures c.loop-self-test.false (held.values.ok.0 ∙ none)) c.take.ensures.none

pub returns-clause-left : goal.returns-clause-left
returns-clause-left c =
    let held = c.loop-self.self in
    uppermost_there c.take.result held.values.items (runs_in (reverse held.runs.items)) _
    (λ none. filled _ _ c.is_empty.ensures c.loop-self-test.false (held.values.ok.0 ∙ none)) c.take.ensures.none
