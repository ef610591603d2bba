use Rattle.std.proofs.Common.{length, ◌<◌, ◌+◌, arith}
use Rattle.std.proofs.Math.Seq.{drop-cons}
use Rattle.template_compiler_sources.specs.Seen.{has_seen}
use Rattle.template_compiler_sources.proofs.Seeing.{kept, twice, at_first, unseen}
use Rattle.template_compiler_sources.proofs.distinct.are_distinct.Goals as goal

pub loop-name-init : goal.loop-name-init
loop-name-init c = at_first (λ q. has_seen c.new-seen.result q) (λ q. unseen c.new-seen.result c.new-seen.ensures.empty q) c.args.names.now

pub returns-then-not-branch : goal.returns-then-not-branch
returns-then-not-branch c =
    let within : c.loop-name.name-index < length c.args.names.now = omega arith in
    twice c.args.names.now c.loop-name.name-index _ _ (λ q. has_seen c.loop-name.seen q) _ (drop-cons c.args.names.now c.loop-name.name-index _ within)
    c.in_ok-see.ensures.new c.if-not-branch.true c.loop-name.invariant

pub loop-name-preserved : goal.loop-name-preserved
loop-name-preserved c =
    let within : c.loop-name.name-index < length c.args.names.now = omega arith in
    kept c.args.names.now c.loop-name.name-index (c.loop-name.name-index + 1) _ _ (λ q. has_seen c.loop-name.seen q) (λ q. has_seen c.see.new.seen q) _
    (drop-cons c.args.names.now c.loop-name.name-index _ within) c.in_ok-see.ensures.new c.if-not-branch.false c.in_ok-see.ensures.seen c.loop-name.invariant
    (omega arith)
