use Rattle.std.proofs.Common.{◌≡◌, ◌+◌, ◌-◌, drop, map, if◌then◌else◌, ap, ◌∙◌, arith}
use Rattle.template_compiler_code.specs.Counting.{count_of, counts_before, counts_of}
use Rattle.template_compiler_code.specs.View.{code_of}
use Rattle.template_compiler_code.proofs.Numbering.{counted-on}
use Rattle.template_compiler_code.proofs.listing.counted.Goals as goal
use Rattle.template_compiler_code.proofs.listing.counted.Goals.{then-is_counted, else-is_counted}

pub loop-instruction-preserved : goal.loop-instruction-preserved
loop-instruction-preserved c =
    let part = c.args.part in
    let code = c.args.code.now in
    let k = c.loop-instruction.instruction-index in
    let left = c.loop-instruction.left in
    let on : count_of part (counts_before (map code_of (drop k code)) left)
    ≡ count_of part (counts_of (code_of c.instruction-item.result)) + count_of part (counts_before (map code_of (drop (k + 1) code)) (left - 1)) =
    counted-on part code_of k code c.instruction-item.result left (omega arith) c.instruction-item.is (omega (arith, c.if-left-eq0.false)) in
    let before = c.loop-instruction.invariant in
    elim c.if-is_counted.branch [
      | then-is_counted w ↦
          let one : count_of c.args.part (counts_of (code_of c.instruction-item.result)) ≡ 1 = c.is_counted.ensures ∙ ap (λ b. if b then 1 else 0) w.if-is_counted.true in
          (omega (arith, w.parts-is, before.0), omega (arith, w.parts-is, one, on, before.1))
      | else-is_counted w ↦
          let none : count_of c.args.part (counts_of (code_of c.instruction-item.result)) ≡ 0 = c.is_counted.ensures ∙ ap (λ b. if b then 1 else 0) w.if-is_counted.false in
          (omega (arith, w.parts-is, before.0), omega (arith, w.parts-is, none, on, before.1))
    ]
