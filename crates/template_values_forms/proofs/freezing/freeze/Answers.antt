use Rattle.std.proofs.Common.{arith}
use Rattle.template_values_forms.specs.Printed.{level_limit}
use Rattle.template_values_forms.proofs.freezing.freeze.Goals as goal

pub returns-then-not-holds_namespace : goal.returns-then-not-holds_namespace
unfolding level_limit
returns-then-not-holds_namespace g c =
    c.holds_namespace.ensures.stays c.if-not-holds_namespace.true (g.R.Records.known c.args.records.now) level_limit c.holds_namespace.ensures.bound

pub freeze_inner-requires : goal.freeze_inner-requires
unfolding level_limit
freeze_inner-requires g c = omega (arith, c.deepest.ensures)
