use Rattle.std.proofs.Common.{IsTrue, ◌≡◌, ℕ, List, ◌||◌}
use Rattle.std.specs.BTreeSet.{contains_text}
use Rattle.template_compiler_names_statements.proofs.owned.add_names.Given as goal

-- with the names that are left the set has what it is to have, and it keeps its names
abbrev pub invariant-loop-name : goal.invariant-loop-name
invariant-loop-name l = record {
  left : (q : List ℕ) → (contains_text l.names q || contains_text record { keys = l.name-iterator } q) ≡ (contains_text l.fn.names q || contains_text l.fn.used q);
  kept : (q : List ℕ) → IsTrue (contains_text l.fn.names q) → IsTrue (contains_text l.names q);
}
