use Rattle.std.proofs.Common.{◌≡◌, ℕ, List, ◌||◌}
use Rattle.std.specs.BTreeSet.{contains_text}
use Rattle.template_values_named.proofs.Listing.{has_name, shown}
use Rattle.template_values_named.proofs.parts.add_names.Given as goal

-- the names so far came to the others
abbrev pub invariant-loop-name : goal.invariant-loop-name
invariant-loop-name l = (q : List ℕ) → contains_text l.names q ≡ (contains_text l.fn.names q || has_name q (shown l.yielded))
