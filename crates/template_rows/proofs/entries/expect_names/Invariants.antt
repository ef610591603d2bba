use Rattle.std.proofs.Common.{◌≡◌, map}
use Rattle.serde_json.specs.View.{members_view}
use Rattle.template_rows.specs.Entries.{are_among}
use Rattle.template_rows.proofs.entries.expect_names.Given as goal

abbrev pub invariant-loop-name : goal.invariant-loop-name
invariant-loop-name l =
    are_among (map (λ word. word.now) l.known) (members_view l.entries.entries) ≡ are_among (map (λ word. word.now) l.known) (members_view l.name-iterator)
