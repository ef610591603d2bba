use Rattle.std.proofs.Common.{◌≡◌, [], ◌++◌, codes, ap, append-nil, refl, sym, ◌∙◌, Err, Ok}
use Rattle.std.proofs.lemmas.Result.{err_from_is_err_and}
use Rattle.template_values_errors.specs.Names.{kind_name}
use Rattle.template_program_output.specs.Lines.{causes_behind}
use Rattle.template_program_output.proofs.Written.{causes_parts, left-begun, left-moved, writes_same, writes_then}
use Rattle.template_program_output.proofs.lines.write_causes.Goals as goal

pub returns-in_err-write_whole : goal.returns-in_err-write_whole
returns-in_err-write_whole g c =
    let p = err_from_is_err_and c.from_residual.result c.from_residual.ensures.1 in
    let so_far = c.loop-cause.invariant in
    let left = c.loop-cause.error.now in
    let parts = causes_parts left c.in-Some.cause.now c.in-Some.ensures.0 c.kind-kind.result c.in-Some.ensures.1 c.kind-kind.ensures in
    left-begun (g.O.Output.shown c.args.out.now) (g.O.Output.shown c.loop-cause.out) (g.O.Output.shown c.write_whole.new.out)
    (causes_behind c.args.error.now) so_far.0 (causes_behind left) (codes ": ") (kind_name c.kind-kind.result ++ causes_behind c.in-Some.cause.now)
    c.in_err-write_whole.field-0.0 c.from_residual.result so_far.1 parts (p.1 ∙ ap Err p.2) so_far.2 c.in_err-write_whole.ensures

pub returns-in_err-write_whole-2 : goal.returns-in_err-write_whole-2
returns-in_err-write_whole-2 g c =
    let p = err_from_is_err_and c.from_residual-in_err-write_whole-2.result c.from_residual-in_err-write_whole-2.ensures.1 in
    let so_far = c.loop-cause.invariant in
    let left = c.loop-cause.error.now in
    let before = g.O.Output.shown c.args.out.now in
    let zero = g.O.Output.shown c.loop-cause.out in
    let one = g.O.Output.shown c.write_whole.new.out in
    let two = g.O.Output.shown c.write_whole-in-Some.new.out in
    let name = kind_name c.kind-kind.result in
    let rest = causes_behind c.in-Some.cause.now in
    let parts = causes_parts left c.in-Some.cause.now c.in-Some.ensures.0 c.kind-kind.result c.in-Some.ensures.1 c.kind-kind.ensures in
    let moved = left-moved (causes_behind c.args.error.now) so_far.0 (causes_behind left) (codes ": ") (name ++ rest) so_far.1 parts in
    let begun = writes_then before zero one so_far.0 (codes ": ") (Ok tt) so_far.2 c.in_ok-write_whole.ensures in
    let word = writes_same one two name c.as_bytes.result.now (Err c.in_err-write_whole-2.field-0.0)
    (sym (c.as_bytes.ensures.value ∙ c.name.ensures)) c.in_err-write_whole-2.ensures in
    left-begun before one two (causes_behind c.args.error.now) (so_far.0 ++ codes ": ") (name ++ rest) name rest
    c.in_err-write_whole-2.field-0.0 c.from_residual-in_err-write_whole-2.result moved refl (p.1 ∙ ap Err p.2) begun word

pub loop-cause-preserved : goal.loop-cause-preserved
loop-cause-preserved g c =
    let so_far = c.loop-cause.invariant in
    let left = c.loop-cause.error.now in
    let before = g.O.Output.shown c.args.out.now in
    let zero = g.O.Output.shown c.loop-cause.out in
    let one = g.O.Output.shown c.write_whole.new.out in
    let two = g.O.Output.shown c.write_whole-in-Some.new.out in
    let name = kind_name c.kind-kind.result in
    let rest = causes_behind c.in-Some.cause.now in
    let parts = causes_parts left c.in-Some.cause.now c.in-Some.ensures.0 c.kind-kind.result c.in-Some.ensures.1 c.kind-kind.ensures in
    let moved = left-moved (causes_behind c.args.error.now) so_far.0 (causes_behind left) (codes ": ") (name ++ rest) so_far.1 parts in
    let begun = writes_then before zero one so_far.0 (codes ": ") (Ok tt) so_far.2 c.in_ok-write_whole.ensures in
    let word = writes_same one two name c.as_bytes.result.now (Ok tt)
    (sym (c.as_bytes.ensures.value ∙ c.name.ensures)) c.in_ok-write_whole-2.ensures in
    let more = writes_then before one two (so_far.0 ++ codes ": ") name (Ok tt) begun word in (
      (so_far.0 ++ codes ": ") ++ name,
      left-moved (causes_behind c.args.error.now) (so_far.0 ++ codes ": ") (name ++ rest) name rest moved refl,
      more,
    )

pub returns : goal.returns
returns g c =
    let so_far = c.loop-cause.invariant in
    writes_same (g.O.Output.shown c.args.out.now) (g.O.Output.shown c.loop-cause.out) (causes_behind c.args.error.now) so_far.0 (Ok tt)
    (so_far.1 ∙ ap (λ kinds. so_far.0 ++ causes_behind kinds) c.in_default.ensures.1 ∙ append-nil so_far.0) so_far.2
