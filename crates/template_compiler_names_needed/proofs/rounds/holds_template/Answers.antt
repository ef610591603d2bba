use Rattle.std.proofs.Common.{◌≡◌, true, false, ◌||◌, drop, ◌+◌, ap, sym, ◌∙◌, arith}
use Rattle.template_compiler_names_closures.specs.Units.{part_of, parts_in}
use Rattle.template_compiler_names_needed.specs.Needed.{has_whole, is_whole}
use Rattle.template_compiler_names_needed.proofs.Looping.{whole_end, whole_item}
use Rattle.template_compiler_names_needed.proofs.rounds.holds_template.Goals as goal

pub loop-unit-preserved : goal.loop-unit-preserved
loop-unit-preserved c =
    let units = c.args.units.now in
    let rest = has_whole (parts_in (drop (c.loop-unit.unit-index + 1) units)) in
    let other : is_whole (part_of c.unit-item.result) ≡ false = sym c.is_template.ensures ∙ c.if-is_template.false in
    sym (ap (λ b. b || rest) other) ∙ sym (whole_item units c.loop-unit.unit-index c.unit-item.result (omega arith) c.unit-item.is) ∙ c.loop-unit.invariant

pub returns-then-is_template : goal.returns-then-is_template
returns-then-is_template c =
    let units = c.args.units.now in
    let rest = has_whole (parts_in (drop (c.loop-unit.unit-index + 1) units)) in
    let this : is_whole (part_of c.unit-item.result) ≡ true = sym c.is_template.ensures ∙ c.if-is_template.true in
    sym (ap (λ b. b || rest) this) ∙ sym (whole_item units c.loop-unit.unit-index c.unit-item.result (omega arith) c.unit-item.is) ∙ c.loop-unit.invariant

pub returns : goal.returns
returns c = sym (whole_end c.args.units.now c.loop-unit.unit-index c.loop-unit-test.false) ∙ c.loop-unit.invariant
