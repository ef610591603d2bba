-- One local more.
use Rattle.std.proofs.Common.{◌<◌, length, arith}
use Rattle.template_values_core.specs.Shape.{pairs_in}
use Rattle.template_machine_frames.proofs.Public.{one_further}
use Rattle.template_machine_frames.proofs.local.add_public.Goals as goal

pub loop-local-preserved : goal.loop-local-preserved
loop-local-preserved c =
    let within : c.loop-local.local-index < length c.args.locals.now = omega arith in
    one_further c.args.locals.now c.loop-local.local-index c.local-item.result (pairs_in c.loop-local.entries.items) (pairs_in c.add_if_public.new.entries.items)
    _ within c.local-item.is c.in_ok-add_if_public.ensures.added c.loop-local.invariant
