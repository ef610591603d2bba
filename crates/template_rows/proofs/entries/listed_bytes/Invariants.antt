use Rattle.std.proofs.Common.{◌≡◌, drop}
use Rattle.serde_json.specs.View.{items_view}
use Rattle.template_rows.specs.Entries.{parts_in}
use Rattle.template_rows.proofs.Listed.{behind}
use Rattle.template_rows.proofs.entries.listed_bytes.Given as goal

-- the bytes so far, and those of the parts that are left
abbrev pub invariant-loop-part : goal.invariant-loop-part
invariant-loop-part l =
    parts_in (items_view l.parts) ≡ behind l.all.items (parts_in (items_view (drop l.part-index l.parts)))
