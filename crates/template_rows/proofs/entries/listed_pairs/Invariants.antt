use Rattle.std.proofs.Common.{◌≡◌, drop, map}
use Rattle.serde_json.specs.View.{items_view}
use Rattle.template_rows.specs.Entries.{all_in, pair_in, texts_of_pair}
use Rattle.template_rows.proofs.Listed.{behind}
use Rattle.template_rows.proofs.entries.listed_pairs.Given as goal

-- the pairs so far, and those of the items that are left
abbrev pub invariant-loop-pair : goal.invariant-loop-pair
invariant-loop-pair l =
    all_in pair_in (items_view l.pairs) ≡ behind (map texts_of_pair l.listed.items) (all_in pair_in (items_view (drop l.pair-index l.pairs)))
