use Rattle.std.proofs.Common.{[], ◌∷◌, ◌++◌, codes, ap, sym, ◌∙◌, Err, Ok}
use Rattle.std.proofs.lemmas.Result.{err_from_is_err_and}
use Rattle.template_program_output.proofs.Written.{writes_begun, writes_same, writes_then}
use Rattle.template_program_output.proofs.lines.write_fault.Goals as goal

pub returns-in_err-write_whole : goal.returns-in_err-write_whole
returns-in_err-write_whole g c =
    let p = err_from_is_err_and c.from_residual.result c.from_residual.ensures.1 in
    writes_begun (g.O.Output.shown c.args.out.now) (g.O.Output.shown c.write_whole.new.out) (codes "fault: ") (c.args.word.now ++ 10 ∷ [])
    c.in_err-write_whole.field-0.0 c.from_residual.result (p.1 ∙ ap Err p.2) c.in_err-write_whole.ensures

pub returns-in_err-write_whole-2 : goal.returns-in_err-write_whole-2
returns-in_err-write_whole-2 g c =
    let p = err_from_is_err_and c.from_residual-in_err-write_whole-2.result c.from_residual-in_err-write_whole-2.ensures.1 in
    let before = g.O.Output.shown c.args.out.now in
    let one = g.O.Output.shown c.write_whole.new.out in
    let two = g.O.Output.shown c.write_whole-2.new.out in
    let word = writes_same one two c.args.word.now c.as_bytes.result.now (Err c.in_err-write_whole-2.field-0.0) (sym c.as_bytes.ensures.value) c.in_err-write_whole-2.ensures in
    writes_then before one two (codes "fault: ") (c.args.word.now ++ 10 ∷ []) c.from_residual-in_err-write_whole-2.result c.in_ok-write_whole.ensures
    (writes_begun one two c.args.word.now (10 ∷ []) c.in_err-write_whole-2.field-0.0 c.from_residual-in_err-write_whole-2.result (p.1 ∙ ap Err p.2) word)

pub returns : goal.returns
returns g c =
    let before = g.O.Output.shown c.args.out.now in
    let one = g.O.Output.shown c.write_whole.new.out in
    let two = g.O.Output.shown c.write_whole-2.new.out in
    let three = g.O.Output.shown c.write_whole-3.new.out in
    let word = writes_same one two c.args.word.now c.as_bytes.result.now (Ok tt) (sym c.as_bytes.ensures.value) c.in_ok-write_whole-2.ensures in
    writes_then before one three (codes "fault: ") (c.args.word.now ++ 10 ∷ []) c.write_whole-3.result c.in_ok-write_whole.ensures
    (writes_then one two three c.args.word.now (10 ∷ []) c.write_whole-3.result word c.write_whole-3.ensures)
