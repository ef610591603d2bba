use Rattle.std.proofs.Common.{◌≡◌, drop, map}
use Rattle.serde_json.specs.Find.{as_str}
use Rattle.serde_json.specs.View.{items_view}
use Rattle.template_rows.specs.Entries.{all_in}
use Rattle.template_rows.proofs.Listed.{behind}
use Rattle.template_rows.proofs.entries.listed_texts.Given as goal

-- the texts so far, and those of the items that are left
abbrev pub invariant-loop-text : goal.invariant-loop-text
invariant-loop-text l =
    all_in as_str (items_view l.texts) ≡ behind (map (λ text. text.now) l.listed.items) (all_in as_str (items_view (drop l.text-index l.texts)))
