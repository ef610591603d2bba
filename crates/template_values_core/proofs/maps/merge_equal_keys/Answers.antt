use Rattle.std.proofs.Common.{rules}
use Rattle.template_values_core.proofs.Sorting.{merged_all}
use Rattle.template_values_core.proofs.maps.merge_equal_keys.Goals as goal

pub returns : goal.returns
returns c = merged_all _ (λ s x k b t x' k' r. search rules) _ _ _ c.dedup_by.ensures.filtered
