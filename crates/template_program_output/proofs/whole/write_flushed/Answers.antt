use Rattle.std.proofs.Common.{ap, ◌∙◌, Err}
use Rattle.std.proofs.lemmas.Result.{err_from_is_err_and}
use Rattle.template_program_output.proofs.Written.{writes_flushed, writes_refused}
use Rattle.template_program_output.proofs.whole.write_flushed.Goals as goal

pub returns-in_err-write_whole-clause-written : goal.returns-in_err-write_whole-clause-written
returns-in_err-write_whole-clause-written g c =
    let p = err_from_is_err_and c.from_residual.result c.from_residual.ensures.1 in
    writes_refused (g.O.Output.shown c.args.out.now) (g.O.Output.shown c.write_whole.new.out) c.args.bytes.now
    c.in_err-write_whole.field-0.0 c.from_residual.result (p.1 ∙ ap Err p.2) c.in_err-write_whole.ensures

pub returns-clause-written : goal.returns-clause-written
returns-clause-written g c =
    writes_flushed (g.O.Output.shown c.args.out.now) (g.O.Output.shown c.write_whole.new.out) (g.O.Output.shown c.flush_once.new.self)
    c.args.bytes.now c.flush_once.result c.in_ok-write_whole.ensures c.flush_once.ensures.bytes c.flush_once.ensures.told
