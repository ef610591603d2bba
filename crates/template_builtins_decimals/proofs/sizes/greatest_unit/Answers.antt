use Rattle.std.proofs.Common.{arith, sym, ◌∙◌}
use Rattle.template_builtins_decimals.proofs.Units.{unit_stays, unit_goes, unit_ends, amount_least, amount_grows, amount_greatest}
use Rattle.template_builtins_decimals.proofs.sizes.greatest_unit.Goals as goal

pub loop-letter-preserved : goal.loop-letter-preserved
loop-letter-preserved c = record {
  least = amount_least c.args.base c.loop-letter.unit.amount (omega arith) c.loop-letter.invariant.least;
  greatest = amount_grows c.loop-letter.letter-index c.loop-letter.unit.amount c.args.base c.loop-letter.invariant.greatest (omega arith);
  unit = sym (unit_goes c.args.base c.args.size c.loop-letter.unit c.args.letters.now c.loop-letter.letter-index c.letter-item.result c.loop-letter-test.true c.letter-item.is c.if-size-base.false) ∙ c.loop-letter.invariant.unit;
}

pub returns-then-size-base-clause-unit : goal.returns-then-size-base-clause-unit
returns-then-size-base-clause-unit c =
    sym (unit_stays c.args.base c.args.size c.loop-letter.unit c.args.letters.now c.loop-letter.letter-index c.loop-letter-test.true (omega arith) c.if-size-base.true) ∙ c.loop-letter.invariant.unit

pub returns-then-size-base-clause-greatest : goal.returns-then-size-base-clause-greatest
returns-then-size-base-clause-greatest c = amount_greatest c.loop-letter.letter-index c.loop-letter.unit.amount (omega arith) c.loop-letter.invariant.greatest

pub returns-clause-unit : goal.returns-clause-unit
returns-clause-unit c =
    sym (unit_ends c.args.base c.args.size c.loop-letter.unit c.args.letters.now c.loop-letter.letter-index c.loop-letter-test.false) ∙ c.loop-letter.invariant.unit

pub returns-clause-greatest : goal.returns-clause-greatest
returns-clause-greatest c = amount_greatest c.loop-letter.letter-index c.loop-letter.unit.amount (omega arith) c.loop-letter.invariant.greatest
