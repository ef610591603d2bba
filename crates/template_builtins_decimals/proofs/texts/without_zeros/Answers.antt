use Rattle.std.proofs.Common.{arith, ◌∙◌}
use Rattle.template_builtins_decimals.proofs.Digits.{digits_take}
use Rattle.template_builtins_decimals.proofs.Showing.{back_other, back_zero}
use Rattle.template_builtins_decimals.proofs.texts.without_zeros.Goals as goal

pub returns-then-digits-end-ne48-clause-text : goal.returns-then-digits-end-ne48-clause-text
returns-then-digits-end-ne48-clause-text c =
    back_other c.args.digits.now c.back.end c.back-test.true c.back.invariant.within c.if-digits-end-ne48.true ∙ c.back.invariant.text

pub returns-then-digits-end-ne48-clause-digits : goal.returns-then-digits-end-ne48-clause-digits
returns-then-digits-end-ne48-clause-digits c = digits_take c.back.end c.args.digits.now c.requires

pub back-preserved : goal.back-preserved
back-preserved c = record {
  within = omega arith;
  text = back_zero c.args.digits.now c.back.end c.back-test.true c.back.invariant.within c.if-digits-end-ne48.false ∙ c.back.invariant.text;
}
