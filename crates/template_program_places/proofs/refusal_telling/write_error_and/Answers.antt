use Rattle.std.proofs.Common.{[], ◌∷◌, ◌++◌, codes, ap, sym, ◌∙◌, Err, Ok}
use Rattle.std.proofs.lemmas.Result.{err_from_is_err_and}
use Rattle.template_program_output.specs.Lines.{error_line}
use Rattle.template_program_output.proofs.Written.{writes_begun, writes_same, writes_then}
use Rattle.template_program_places.specs.Told.{place_line}
use Rattle.template_program_places.proofs.refusal_telling.write_error_and.Goals as goal

pub returns-in_err-write_error : goal.returns-in_err-write_error
returns-in_err-write_error g c =
    let p = err_from_is_err_and c.from_residual.result c.from_residual.ensures.1 in
    writes_begun (g.O.Output.shown c.args.out.now) (g.O.Output.shown c.write_error.new.out) (error_line c.args.error.now) (place_line c.args.place.now)
    c.in_err-write_error.field-0.0 c.from_residual.result (p.1 ∙ ap Err p.2) c.in_err-write_error.ensures

pub returns-in_err-write_whole : goal.returns-in_err-write_whole
returns-in_err-write_whole g c =
    let p = err_from_is_err_and c.from_residual-in_err-write_whole.result c.from_residual-in_err-write_whole.ensures.1 in
    let place = c.args.place.now in
    let one = g.O.Output.shown c.write_error.new.out in
    let two = g.O.Output.shown c.write_whole.new.out in
    let result = c.from_residual-in_err-write_whole.result in
    writes_then (g.O.Output.shown c.args.out.now) one two (error_line c.args.error.now) (place_line place) result c.in_ok-write_error.ensures
    (writes_begun one two (codes "  at ") (place ++ 10 ∷ []) c.in_err-write_whole.field-0.0 result (p.1 ∙ ap Err p.2) c.in_err-write_whole.ensures)

pub returns-in_err-write_whole-2 : goal.returns-in_err-write_whole-2
returns-in_err-write_whole-2 g c =
    let p = err_from_is_err_and c.from_residual-in_err-write_whole-2.result c.from_residual-in_err-write_whole-2.ensures.1 in
    let place = c.args.place.now in
    let one = g.O.Output.shown c.write_error.new.out in
    let two = g.O.Output.shown c.write_whole.new.out in
    let three = g.O.Output.shown c.write_whole-2.new.out in
    let result = c.from_residual-in_err-write_whole-2.result in
    let told = writes_same two three place c.as_bytes.result.now (Err c.in_err-write_whole-2.field-0.0) (sym c.as_bytes.ensures.value)
    c.in_err-write_whole-2.ensures in
    writes_then (g.O.Output.shown c.args.out.now) one three (error_line c.args.error.now) (place_line place) result c.in_ok-write_error.ensures
    (writes_then one two three (codes "  at ") (place ++ 10 ∷ []) result c.in_ok-write_whole.ensures
    (writes_begun two three place (10 ∷ []) c.in_err-write_whole-2.field-0.0 result (p.1 ∙ ap Err p.2) told))

pub returns : goal.returns
returns g c =
    let place = c.args.place.now in
    let one = g.O.Output.shown c.write_error.new.out in
    let two = g.O.Output.shown c.write_whole.new.out in
    let three = g.O.Output.shown c.write_whole-2.new.out in
    let four = g.O.Output.shown c.write_whole-3.new.out in
    let result = c.write_whole-3.result in
    let told = writes_same two three place c.as_bytes.result.now (Ok tt) (sym c.as_bytes.ensures.value) c.in_ok-write_whole-2.ensures in
    writes_then (g.O.Output.shown c.args.out.now) one four (error_line c.args.error.now) (place_line place) result c.in_ok-write_error.ensures
    (writes_then one two four (codes "  at ") (place ++ 10 ∷ []) result c.in_ok-write_whole.ensures
    (writes_then two three four place (10 ∷ []) result told c.write_whole-3.ensures))
