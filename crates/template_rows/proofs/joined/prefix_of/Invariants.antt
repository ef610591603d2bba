-- The text that stands for the template is among those that are left.
use Rattle.std.proofs.Common.{◌≡◌, drop}
use Rattle.template_rows.specs.Joins.{prefix_at, prefixes_in}
use Rattle.template_rows.proofs.joined.prefix_of.Given as goal

abbrev pub invariant-loop-name : goal.invariant-loop-name
invariant-loop-name l = prefix_at l.parent (prefixes_in (drop l.name-index l.prefixes)) ≡ prefix_at l.parent (prefixes_in l.prefixes)
