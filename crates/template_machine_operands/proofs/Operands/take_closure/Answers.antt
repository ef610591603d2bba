use Rattle.std.proofs.Common.{reverse, ◌∙◌}
use Rattle.template_machine_operands.specs.Operands.{runs_in}
use Rattle.template_machine_operands.proofs.Counting.{filled, value_lacks_closure}
use Rattle.template_machine_operands.proofs.Operands.take_closure.Goals as goal

pub returns-then-not-is_empty-clause-none : goal.returns-then-not-is_empty-clause-none
returns-then-not-is_empty-clause-none c =
    let held = c.args.self.now.values in
    value_lacks_closure held.items (runs_in (reverse c.args.self.now.runs.items))
    (λ none. filled _ _ c.is_empty.ensures c.if-not-is_empty.true (held.ok.0 ∙ none))
