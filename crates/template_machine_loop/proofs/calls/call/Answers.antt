use Rattle.template_machine_calls.specs.Hosted.{hosted}
use Rattle.template_machine_loop.proofs.Calling.{stopped_as}
use Rattle.template_machine_loop.proofs.calls.call.Goals as goal

pub returns-in-Err : goal.returns-in-Err
returns-in-Err g c program =
    stopped_as (hosted c.args.rules (g.H.Callbacks.callables c.args.host.now) program) _ _ _ _ _ _ _ _ c.in-Err.is c.stopped_at.ensures
    (c.called.ensures program)
