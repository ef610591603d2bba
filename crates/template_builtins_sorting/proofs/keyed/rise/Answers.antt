use Rattle.std.proofs.Common.{rules}
use Rattle.template_builtins_sorting.specs.Sorted.{rises}
use Rattle.template_builtins_sorting.proofs.Stable.{in_order-sort_by, rises_order}
use Rattle.template_builtins_sorting.proofs.keyed.rise.Goals as goal

pub returns-clause-sorted : goal.returns-clause-sorted
returns-clause-sorted c =
    in_order-sort_by rises rises_order _ _ c.sort_by.ensures.stable c.in_ok-sort_by.ensures.sorted (λ a r f' k. search rules)
