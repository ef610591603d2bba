use Rattle.std.proofs.Common.{rules}
use Rattle.template_builtins_sorting.specs.Sorted.{falls}
use Rattle.template_builtins_sorting.proofs.Stable.{in_order-sort_by, falls_order}
use Rattle.template_builtins_sorting.proofs.keyed.fall.Goals as goal

pub returns-clause-sorted : goal.returns-clause-sorted
returns-clause-sorted c =
    in_order-sort_by falls falls_order _ _ c.sort_by.ensures.stable c.in_ok-sort_by.ensures.sorted (λ a r f' k. search rules)
