use Rattle.std.proofs.Common.{[], ◌∷◌, ◌++◌, codes, ap, sym, ◌∙◌, Err, Ok}
use Rattle.std.proofs.lemmas.Result.{err_from_is_err_and}
use Rattle.template_values_errors.specs.Names.{kind_name, kinds_text}
use Rattle.template_program_output.specs.Lines.{causes_behind, error_line}
use Rattle.template_program_output.proofs.Written.{line_parts, writes_begun, writes_same, writes_then}
use Rattle.template_program_output.proofs.lines.write_error.Goals as goal

pub returns-in_err-write_whole : goal.returns-in_err-write_whole
returns-in_err-write_whole g c =
    let p = err_from_is_err_and c.from_residual.result c.from_residual.ensures.1 in
    writes_begun (g.O.Output.shown c.args.out.now) (g.O.Output.shown c.write_whole.new.out) (codes "fault: ") (kinds_text c.args.error.now ++ 10 ∷ [])
    c.in_err-write_whole.field-0.0 c.from_residual.result (p.1 ∙ ap Err p.2) c.in_err-write_whole.ensures

pub returns-in_err-write_whole-2 : goal.returns-in_err-write_whole-2
returns-in_err-write_whole-2 g c =
    let p = err_from_is_err_and c.from_residual-in_err-write_whole-2.result c.from_residual-in_err-write_whole-2.ensures.1 in
    let before = g.O.Output.shown c.args.out.now in
    let one = g.O.Output.shown c.write_whole.new.out in
    let two = g.O.Output.shown c.write_whole-2.new.out in
    let name = kind_name c.kind.result in
    let causes = causes_behind c.args.error.now in
    let is = sym (c.as_bytes.ensures.value ∙ c.name.ensures) in
    let result = c.from_residual-in_err-write_whole-2.result in
    let word = writes_same one two name c.as_bytes.result.now (Err c.in_err-write_whole-2.field-0.0) is c.in_err-write_whole-2.ensures in
    writes_same before two (error_line c.args.error.now) (codes "fault: " ++ (name ++ (causes ++ 10 ∷ []))) result (line_parts c.args.error.now c.kind.result c.kind.ensures)
    (writes_then before one two (codes "fault: ") (name ++ (causes ++ 10 ∷ [])) result c.in_ok-write_whole.ensures
    (writes_begun one two name (causes ++ 10 ∷ []) c.in_err-write_whole-2.field-0.0 result (p.1 ∙ ap Err p.2) word))

pub returns-in_err-write_causes : goal.returns-in_err-write_causes
returns-in_err-write_causes g c =
    let p = err_from_is_err_and c.from_residual-in_err-write_causes.result c.from_residual-in_err-write_causes.ensures.1 in
    let before = g.O.Output.shown c.args.out.now in
    let one = g.O.Output.shown c.write_whole.new.out in
    let two = g.O.Output.shown c.write_whole-2.new.out in
    let name = kind_name c.kind.result in
    let causes = causes_behind c.args.error.now in
    let is = sym (c.as_bytes.ensures.value ∙ c.name.ensures) in
    let three = g.O.Output.shown c.write_causes.new.out in
    let result = c.from_residual-in_err-write_causes.result in
    let word = writes_same one two name c.as_bytes.result.now (Ok tt) is c.in_ok-write_whole-2.ensures in
    writes_same before three (error_line c.args.error.now) (codes "fault: " ++ (name ++ (causes ++ 10 ∷ []))) result (line_parts c.args.error.now c.kind.result c.kind.ensures)
    (writes_then before one three (codes "fault: ") (name ++ (causes ++ 10 ∷ [])) result c.in_ok-write_whole.ensures
    (writes_then one two three name (causes ++ 10 ∷ []) result word
    (writes_begun two three causes (10 ∷ []) c.in_err-write_causes.field-0.0 result (p.1 ∙ ap Err p.2) c.in_err-write_causes.ensures)))

pub returns : goal.returns
returns g c =
    let before = g.O.Output.shown c.args.out.now in
    let one = g.O.Output.shown c.write_whole.new.out in
    let two = g.O.Output.shown c.write_whole-2.new.out in
    let name = kind_name c.kind.result in
    let causes = causes_behind c.args.error.now in
    let is = sym (c.as_bytes.ensures.value ∙ c.name.ensures) in
    let three = g.O.Output.shown c.write_causes.new.out in
    let four = g.O.Output.shown c.write_whole-3.new.out in
    let result = c.write_whole-3.result in
    let word = writes_same one two name c.as_bytes.result.now (Ok tt) is c.in_ok-write_whole-2.ensures in
    writes_same before four (error_line c.args.error.now) (codes "fault: " ++ (name ++ (causes ++ 10 ∷ []))) result (line_parts c.args.error.now c.kind.result c.kind.ensures)
    (writes_then before one four (codes "fault: ") (name ++ (causes ++ 10 ∷ [])) result c.in_ok-write_whole.ensures
    (writes_then one two four name (causes ++ 10 ∷ []) result word
    (writes_then two three four causes (10 ∷ []) result c.in_ok-write_causes.ensures c.write_whole-3.ensures)))
