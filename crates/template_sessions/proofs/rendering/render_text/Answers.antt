use Rattle.std.proofs.Common.{string_bytes}
use Rattle.template_program_run.specs.Given.{given_in}
use Rattle.template_sessions.proofs.Sessions.{renders_into}
use Rattle.template_sessions.proofs.rendering.render_text.Goals as goal

pub returns-clause-renders : goal.returns-clause-renders
returns-clause-renders c =
    renders_into c.args.session.now c.args.name.now (given_in c.args.given) c.render-outcome.result (string_bytes c.render-outcome.new.sink)
    _ c.new-text.ensures.bytes c.render-outcome.ensures.rendered
