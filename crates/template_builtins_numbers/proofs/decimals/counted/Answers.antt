use Rattle.std.proofs.Common.{◌++◌, ◌^◌, ◌∙◌}
use Rattle.template_builtins_numbers.proofs.Moved.{moved_more, moved_past}
use Rattle.template_builtins_numbers.proofs.decimals.counted.Goals as goal

pub loop-place-preserved : goal.loop-place-preserved
loop-place-preserved c =
    c.in_ok-total.ensures
    ∙ moved_more (c.args.whole.now ++ c.args.fraction.now) c.args.places c.loop-place.place c.loop-place.total c.digit_at.result c.loop-place-test.true c.loop-place.invariant c.digit_at.ensures

pub returns-in_err-total : goal.returns-in_err-total
returns-in_err-total c =
    rw c.from_residual.ensures
    (moved_past (c.args.whole.now ++ c.args.fraction.now) c.args.places c.loop-place.place c.loop-place.total c.digit_at.result (2 ^ 128) c.loop-place-test.true c.loop-place.invariant c.digit_at.ensures c.in_err-total.ensures)
