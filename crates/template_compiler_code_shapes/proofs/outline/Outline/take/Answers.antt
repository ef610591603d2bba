use Rattle.std.proofs.Common.{◌-◌, refl, arith}
use Rattle.template_compiler_code_shapes.proofs.OutlineLemmas.{takes, takes_too_many}
use Rattle.template_compiler_code_shapes.proofs.outline.Outline.take.Goals as goal

pub returns-then-count-self-clause-taken : goal.returns-then-count-self-clause-taken
returns-then-count-self-clause-taken c = takes_too_many c.args.self.now c.args.count (omega (arith, c.if-count-self.true))

pub returns-clause-taken : goal.returns-clause-taken
returns-clause-taken c =
    let o = c.args.self.now in
    takes o c.args.count (o.values - c.args.count) c.in_ok-is_above.is_above (omega (arith, c.if-count-self.false)) refl c.in_ok-is_above.ensures.above
