use Rattle.std.proofs.Common.{◌≡◌, ◌∙◌, [], rules}
use Rattle.template_values_core.specs.Maps.{put_all}
use Rattle.template_values_core.specs.Shape.{pairs_in}
use Rattle.template_values_core.proofs.Sorting.{merged-sort_by, rising-put_all}
use Rattle.template_values_core.proofs.maps.sorted.Goals as goal

pub returns : goal.returns
returns c =
    let made : pairs_in c.merge_equal_keys.new.entries.items ≡ put_all [] (pairs_in c.args.entries.items) = c.merge_equal_keys.ensures
    ∙ merged-sort_by _ _ c.sort_by.ensures.stable c.in_ok-sort_by.ensures.sorted (λ a r f' k. search rules) in
    record { made = made; rising = rising-put_all _ (pairs_in c.args.entries.items) made }
