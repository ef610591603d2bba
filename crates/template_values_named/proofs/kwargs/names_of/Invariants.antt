use Rattle.std.proofs.Common.{◌≡◌, ℕ, List, take}
use Rattle.std.specs.BTreeSet.{contains_text}
use Rattle.template_values_named.proofs.Named.{is_named}
use Rattle.template_values_named.proofs.kwargs.names_of.Given as goal

-- the set has the keys so far that are texts
abbrev pub invariant-loop-entry : goal.invariant-loop-entry
invariant-loop-entry l = (q : List ℕ) → contains_text l.names q ≡ is_named q (take l.entry-index l.entries)
