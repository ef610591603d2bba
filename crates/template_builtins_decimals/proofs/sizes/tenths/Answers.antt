use Rattle.std.proofs.Common.{arith}
use Rattle.template_builtins_decimals.specs.Sizes.{tenths}
use Rattle.template_builtins_decimals.proofs.Units.{whole_tenths, rest_tenths, tenths_parts}
use Rattle.template_builtins_decimals.proofs.sizes.tenths.Goals as goal

pub overflow_mul-result : goal.overflow_mul-result
overflow_mul-result c = omega (arith, whole_tenths c.args.size c.args.unit c.requires.least c.requires.size)

pub overflow_add-result-2 : goal.overflow_add-result-2
overflow_add-result-2 c = omega (arith, whole_tenths c.args.size c.args.unit c.requires.least c.requires.size, rest_tenths c.args.size c.args.unit (omega arith))

pub returns : goal.returns
unfolding tenths
returns c = tenths_parts c.args.size c.args.unit (omega arith)
