-- The last loop tells how deep another one stands that opens inside of it.
use Rattle.std.proofs.Common.{◌≡◌, ◌-◌, suc, Some, take, reverse, sym, ◌∙◌, arith}
use Rattle.template_machine_meaning.specs.World.{depth_behind, depth_within}
use Rattle.template_machine_frames.proofs.Known.{depth_counted, depth_last, depth_uncounted}
use Rattle.template_machine_frames.proofs.context.depth_behind.Goals as goal

pub returns-in-Some-clause-counted : goal.returns-in-Some-clause-counted
returns-in-Some-clause-counted c =
    let stack = c.args.stack.now in
    let place = c.loop-left.left - 1 in
    let behind : c.loop-left.left ≡ suc place = omega arith in
    let is : depth_within (reverse stack) ≡ depth_behind (Some c.in-Some.current.now) (depth_within (reverse (take place stack))) =
    sym c.loop-left.invariant.rest
    ∙ depth_last stack c.loop-left.left place c.index-stack-place.result c.in-Some.current.now behind c.loop-left.invariant.within c.index-stack-place.is c.in-Some.ensures in
    depth_counted c.depth_within.result (Some c.in-Some.current.now) (depth_within (reverse stack)) (depth_within (reverse (take place stack))) is c.depth_within.ensures.counted

pub returns-in-Some-clause-uncounted : goal.returns-in-Some-clause-uncounted
returns-in-Some-clause-uncounted c =
    let stack = c.args.stack.now in
    let place = c.loop-left.left - 1 in
    let behind : c.loop-left.left ≡ suc place = omega arith in
    let is : depth_within (reverse stack) ≡ depth_behind (Some c.in-Some.current.now) (depth_within (reverse (take place stack))) =
    sym c.loop-left.invariant.rest
    ∙ depth_last stack c.loop-left.left place c.index-stack-place.result c.in-Some.current.now behind c.loop-left.invariant.within c.index-stack-place.is c.in-Some.ensures in
    depth_uncounted c.depth_within.result (Some c.in-Some.current.now) (depth_within (reverse stack)) (depth_within (reverse (take place stack))) is c.depth_within.ensures.uncounted
