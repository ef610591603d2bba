use Rattle.std.proofs.Common.{arith, ◌<◌}
use Rattle.std.proofs.lemmas.Grind.{common_steps}
use Rattle.template_values_operators.proofs.Repeats.{mul-past}
use Rattle.template_values_operators.proofs.products.rounds.Goals as goal

pub returns-else-count-limit-clause-past : goal.returns-else-count-limit-clause-past
returns-else-count-limit-clause-past c =
    let some : 0 < c.args.length = omega arith in
    let past = mul-past c.in_ok-count.count c.args.length c.args.limit some c.if-count-limit.false in
    grind (arith, common_steps)
