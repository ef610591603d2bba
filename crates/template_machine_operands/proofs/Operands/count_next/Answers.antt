use Rattle.std.proofs.Common.{rules, ◌≡◌, ◌+◌, ◌-◌, length, reverse, sym, ◌∙◌}
use Rattle.std.specs.Vec.{vec_len}
use Rattle.template_machine_operands.specs.Operands.{runs_in}
use Rattle.template_machine_operands.proofs.Counting.{emptied, filled, ok_next, err_kept, value_lacks_run}
use Rattle.template_machine_operands.proofs.Taking.{on_error}
use Rattle.template_machine_operands.proofs.Operands.count_next.Goals as goal

pub returns-then-not-is_empty-clause-none : goal.returns-then-not-is_empty-clause-none
returns-then-not-is_empty-clause-none c =
    let held = c.args.self.now.values in
    value_lacks_run held.items (runs_in (reverse c.args.self.now.runs.items))
    (λ none. filled _ _ c.is_empty.ensures c.if-not-is_empty.true (held.ok.0 ∙ none))

pub returns-in-Some-clause-next : goal.returns-in-Some-clause-next
returns-in-Some-clause-next c =
    let held = c.args.self.now in
    let none : length held.values.items ≡ 0 = sym held.values.ok.0 ∙ emptied _ _ c.is_empty.ensures c.if-not-is_empty.false in
    let many : length held.runs.items ≡ vec_len held.runs - 1 + 1 = search rules in
    ok_next held.values.items held.runs.items (vec_len held.runs - 1) c.in-Some.uppermost.now c.count_next.new.self none many c.in-Some.ensures.value
    c.args.value c.count_next.result c.count_next.ensures.free c.count_next.ensures.next c.count_next.ensures.values c.count_next.ensures.below

pub returns-in-Some-clause-unchanged : goal.returns-in-Some-clause-unchanged
returns-in-Some-clause-unchanged c =
    let held = c.args.self.now in
    let none : length held.values.items ≡ 0 = sym held.values.ok.0 ∙ emptied _ _ c.is_empty.ensures c.if-not-is_empty.false in
    let many : length held.runs.items ≡ vec_len held.runs - 1 + 1 = search rules in
    err_kept held.values.items held.runs.items (vec_len held.runs - 1) c.in-Some.uppermost.now c.count_next.new.self none many c.in-Some.ensures.value
    c.count_next.result c.count_next.ensures.unchanged (on_error c.count_next.result _ c.count_next.ensures.values) c.count_next.ensures.below
