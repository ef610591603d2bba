use Rattle.template_compiler_expression_parts.proofs.Nothing.{order_at}
use Rattle.template_compiler_expression_parts.proofs.ends.in_order.Goals as goal

pub returns-then-skip-clause-parsed : goal.returns-then-skip-clause-parsed
returns-then-skip-clause-parsed c =
    let here = rw c.if-skip.true at c.skip.ensures.passed in
    order_at _ _ _ _ _ _ here (c.few.ensures _ _)
