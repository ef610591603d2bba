use Rattle.template_builtins_decimals.proofs.Powers.{units_added, units_kept}
use Rattle.template_builtins_decimals.proofs.numbers.to_unit.Goals as goal

pub returns-then-adds_unit : goal.returns-then-adds_unit
returns-then-adds_unit c =
    units_added c.args.method c.args.negative c.args.size c.args.unit c.adds_unit.result c.adds_unit.ensures c.if-adds_unit.true

pub returns-else-adds_unit : goal.returns-else-adds_unit
returns-else-adds_unit c =
    units_kept c.args.method c.args.negative c.args.size c.args.unit c.adds_unit.result c.adds_unit.ensures c.if-adds_unit.false
