use Rattle.template_machine_meaning.specs.Keys.{Around}
use Rattle.template_machine_meaning.specs.Surroundings.{written_reply}
use Rattle.template_machine_calls.specs.Formatted.{outside}
use Rattle.template_machine_calls.specs.Hosted.{around_under}
use Rattle.template_machine_calls.proofs.Chaining.{stop_replied}
use Rattle.template_machine_calls.proofs.Formatting.{refused_so, written_so}
use Rattle.template_machine_calls.proofs.formatted.format_value.Goals as goal

pub returns-in_err-make_formatted : goal.returns-in_err-make_formatted
returns-in_err-make_formatted g c a =
    let around : Around = around_under c.args.rules (g.H.Callbacks.callables c.args.host.now) a in
    stop_replied _ (written_reply around (outside c.args.state.now) c.args.value.now) _ _ (outside c.args.state.now)
    (refused_so around (outside c.args.state.now) c.args.value.now _ (c.in_err-make_formatted.ensures a)) c.from_residual.ensures.1

pub returns : goal.returns
returns g c a =
    let around : Around = around_under c.args.rules (g.H.Callbacks.callables c.args.host.now) a in
    written_so around (outside c.args.state.now) c.args.value.now _ (c.in_ok-make_formatted.ensures a)
