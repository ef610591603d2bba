use Rattle.std.proofs.Common.{◌≡◌, drop, get_or, take, option_copied, ◌∙◌}
use Rattle.std.proofs.lemmas.Result.{err_from_is_err_and}
use Rattle.template_builtins_lists.specs.Lines.{filled_list}
use Rattle.template_builtins_lists.proofs.Cutting.{cut_goes, cut_fails, cut_front, cut_back}
use Rattle.template_builtins_lists.proofs.lines.lists_cut.Goals as goal

pub loop-length-preserved : goal.loop-length-preserved
loop-length-preserved c =
    let f = filled_list c.args.width (option_copied c.args.filling) in
    let lengths = c.args.lengths.now in
    let k = c.loop-length.length-index in
    let rest = c.loop-length.rest.now in
    let front : c.split_at.result.0.now ≡ take (get_or lengths k 0) rest = cut_front (get_or lengths k 0) c.min.result rest _ c.min.ensures c.split_at.ensures.front in
    let back : c.split_at.result.1.now ≡ drop (get_or lengths k 0) rest = cut_back (get_or lengths k 0) c.min.result rest _ c.min.ensures c.split_at.ensures.back in
    rw c.in_ok-push.ensures.items
    (c.loop-length.invariant ∙ cut_goes f lengths k rest _ _ c.in_ok-filled_list.field-0 c.loop-length.lists.items c.loop-length-test.true front back c.in_ok-filled_list.ensures)

pub returns-in_err-filled_list : goal.returns-in_err-filled_list
returns-in_err-filled_list c =
    let f = filled_list c.args.width (option_copied c.args.filling) in
    let lengths = c.args.lengths.now in
    let k = c.loop-length.length-index in
    let rest = c.loop-length.rest.now in
    let front : c.split_at.result.0.now ≡ take (get_or lengths k 0) rest = cut_front (get_or lengths k 0) c.min.result rest _ c.min.ensures c.split_at.ensures.front in
    let p = err_from_is_err_and c.from_residual-in_err-filled_list.result c.from_residual-in_err-filled_list.ensures.1 in
    rw (c.loop-length.invariant, p.1, p.2)
    (cut_fails f lengths k rest c.split_at.result.0.now c.loop-length.lists.items _ c.loop-length-test.true front c.in_err-filled_list.ensures)
