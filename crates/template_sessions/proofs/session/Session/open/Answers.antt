use Rattle.std.proofs.Common.{ap, refl}
use Rattle.std.proofs.lemmas.Result.{err_from_is_err_and}
use Rattle.template_program_parts.specs.Context.{text_pairs}
use Rattle.template_program_run.specs.Served.{served_under}
use Rattle.template_sessions.proofs.Sessions.{opened_so, refused_so}
use Rattle.template_sessions.proofs.session.Session.open.Goals as goal

pub returns-clause-opened : goal.returns-clause-opened
returns-clause-opened c =
    let e = c.in_ok-environment in
    let request = c.request_of-request in
    opened_so c.args.opening (record { environment = e.environment; ids = c.environment_of.new.ids; floats = c.args.opening.settings.floats })
    (served_under c.options_of-options.result) c.options_of-options.ensures (text_pairs c.as_slice.result.now) (ap text_pairs c.as_slice.ensures.value)
    c.new-ids.result c.new-ids.ensures e.ensures.accepted request.result request.ensures.asked e.ensures.made e.ensures.brought refl e.ensures.counted

pub returns-in_err-environment-clause-refused : goal.returns-in_err-environment-clause-refused
returns-in_err-environment-clause-refused c =
    let p = err_from_is_err_and c.from_residual.result c.from_residual.ensures.1 in
    let refused = refused_so c.args.opening (served_under c.options_of-options.result) c.options_of-options.ensures
    (text_pairs c.as_slice.result.now) (ap text_pairs c.as_slice.ensures.value) c.new-ids.result c.new-ids.ensures _ c.in_err-environment.ensures.refused in
    rw (p.1, p.2) refused
