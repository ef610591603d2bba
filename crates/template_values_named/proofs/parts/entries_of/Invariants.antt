use Rattle.std.proofs.Common.{◌≡◌, map}
use Rattle.std.specs.Map.Iter.{deref_pair}
use Rattle.template_values_named.proofs.Listing.{shown}
use Rattle.template_values_named.proofs.parts.entries_of.Given as goal

-- the entries so far
abbrev pub invariant-loop-name : goal.invariant-loop-name
invariant-loop-name l = map deref_pair l.entries.items ≡ shown l.yielded
