-- The last frame that is seen and knows the name has it.
use Rattle.std.proofs.Common.{◌≡◌, ◌∙◌, ◌-◌, suc, sym, arith}
use Rattle.template_machine_frames.proofs.Seen.{known_before, known_here, known_none, none_copied}
use Rattle.template_machine_frames.proofs.context.known.Goals as goal

pub loop-left-preserved : goal.loop-left-preserved
loop-left-preserved c =
    let place = c.loop-left.left - 1 in
    let behind : c.loop-left.left ≡ suc place = omega (arith, c.loop-left-test.true) in
    record {
      within = omega (arith, c.loop-left.invariant.within);
      rest = known_before c.args.closures.now c.args.name.now c.args.stack.now c.args.base c.loop-left.left place c.index-stack-place.result
          behind (omega (arith, c.loop-left-test.true)) c.loop-left.invariant.within c.index-stack-place.is
          (none_copied c.load.result c.in_default.not-Some ∙ c.load.ensures)
          ∙ c.loop-left.invariant.rest;
    }

pub returns-in-Some : goal.returns-in-Some
returns-in-Some c =
    let place = c.loop-left.left - 1 in
    let behind : c.loop-left.left ≡ suc place = omega (arith, c.loop-left-test.true) in
    known_here c.args.closures.now c.args.name.now c.args.stack.now c.args.base c.loop-left.left place c.index-stack-place.result c.in-Some.value.now
    behind (omega (arith, c.loop-left-test.true)) c.loop-left.invariant.within c.index-stack-place.is c.in-Some.ensures
    ∙ c.loop-left.invariant.rest

pub returns : goal.returns
returns c =
    sym (known_none c.args.closures.now c.args.name.now c.args.stack.now c.args.base c.loop-left.left c.loop-left.invariant.within
    (omega (arith, c.loop-left-test.false)))
    ∙ c.loop-left.invariant.rest
