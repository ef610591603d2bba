use Rattle.std.proofs.Common.{ap, ◌∙◌, Err}
use Rattle.std.proofs.lemmas.Result.{err_from_is_err_and}
use Rattle.template_program_output.specs.Lines.{error_line}
use Rattle.template_program_output.proofs.Written.{writes_begun, writes_then}
use Rattle.template_program_places.proofs.telling.write_error_and.Goals as goal

pub returns-in_err-write_error : goal.returns-in_err-write_error
returns-in_err-write_error g c =
    let p = err_from_is_err_and c.from_residual.result c.from_residual.ensures.1 in
    writes_begun (g.O.Output.shown c.args.out.now) (g.O.Output.shown c.write_error.new.out) (error_line c.args.error.now) c.args.text.now
    c.in_err-write_error.field-0.0 c.from_residual.result (p.1 ∙ ap Err p.2) c.in_err-write_error.ensures

pub returns : goal.returns
returns g c =
    writes_then (g.O.Output.shown c.args.out.now) (g.O.Output.shown c.write_error.new.out) (g.O.Output.shown c.write_whole.new.out)
    (error_line c.args.error.now) c.args.text.now c.write_whole.result c.in_ok-write_error.ensures c.write_whole.ensures
