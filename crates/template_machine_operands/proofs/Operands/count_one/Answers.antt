use Rattle.std.proofs.Common.{rules, ◌≡◌, ◌+◌, ◌-◌, inr, length, reverse, sym, ◌∙◌}
use Rattle.std.specs.Vec.{vec_len}
use Rattle.template_machine_operands.specs.Operands.{runs_in}
use Rattle.template_machine_operands.proofs.Counting.{emptied, filled, ok_one, err_kept, value_lacks_next}
use Rattle.template_machine_operands.proofs.Operands.count_one.Goals as goal

pub returns-then-not-is_empty-clause-refused : goal.returns-then-not-is_empty-clause-refused
returns-then-not-is_empty-clause-refused c =
    let held = c.args.self.now.values in
    inr (
      c.new.ensures,
      value_lacks_next held.items (runs_in (reverse c.args.self.now.runs.items))
          (λ none. filled _ _ c.is_empty.ensures c.if-not-is_empty.true (held.ok.0 ∙ none)),
    )

pub returns-in-Some-clause-counted : goal.returns-in-Some-clause-counted
returns-in-Some-clause-counted c =
    let held = c.args.self.now in
    let none : length held.values.items ≡ 0 = sym held.values.ok.0 ∙ emptied _ _ c.is_empty.ensures c.if-not-is_empty.false in
    let many : length held.runs.items ≡ vec_len held.runs - 1 + 1 = search rules in
    ok_one held.values.items held.runs.items (vec_len held.runs - 1) c.in-Some.uppermost.now c.count_one.new.self none many c.in-Some.ensures.value
    c.count_one.result c.count_one.ensures.counted c.count_one.ensures.next c.count_one.ensures.below

pub returns-in-Some-clause-unchanged : goal.returns-in-Some-clause-unchanged
returns-in-Some-clause-unchanged c =
    let held = c.args.self.now in
    let none : length held.values.items ≡ 0 = sym held.values.ok.0 ∙ emptied _ _ c.is_empty.ensures c.if-not-is_empty.false in
    let many : length held.runs.items ≡ vec_len held.runs - 1 + 1 = search rules in
    err_kept held.values.items held.runs.items (vec_len held.runs - 1) c.in-Some.uppermost.now c.count_one.new.self none many c.in-Some.ensures.value
    c.count_one.result c.count_one.ensures.unchanged c.count_one.ensures.values c.count_one.ensures.below
