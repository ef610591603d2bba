use Rattle.std.proofs.Common.{arith, ◌^◌, refl, sym, ◌∙◌}
use Rattle.template_builtins_numbers.specs.Wholes.{spaced_value}
use Rattle.template_builtins_numbers.proofs.Digits.{value_turn, value_ends, value_past}
use Rattle.template_builtins_decimals.proofs.numerals.spaced_value.Goals as goal

pub loop-byte-preserved : goal.loop-byte-preserved
loop-byte-preserved c =
    c.loop-byte.invariant
    ∙ value_turn c.args.base c.loop-byte.total c.args.digits.now c.loop-byte.byte-index _ c.in_ok-total.total c.loop-byte-test.true refl c.in_ok-total.ensures

pub returns-in_err-total : goal.returns-in_err-total
unfolding spaced_value
returns-in_err-total c =
    let past = value_past c.args.base c.loop-byte.total c.args.digits.now c.loop-byte.byte-index _ (2 ^ 128) (omega arith) c.loop-byte-test.true refl c.in_err-total.ensures in
    rw c.from_residual.ensures (omega (arith, past, c.loop-byte.invariant))

pub returns : goal.returns
unfolding spaced_value
returns c = sym (c.loop-byte.invariant ∙ value_ends c.args.base c.loop-byte.total c.args.digits.now c.loop-byte.byte-index c.loop-byte-test.false)
