use Rattle.std.proofs.Common.{◌≡◌, ◌||◌, ℕ, List, drop}
use Rattle.std.specs.BTreeSet.{contains_text}
use Rattle.template_compiler_names.specs.Among.{is_among}
use Rattle.template_compiler_names.proofs.owned.add_each.Given as goal

-- with the names that are left the set has what it is to have
abbrev pub invariant-loop-name : goal.invariant-loop-name
invariant-loop-name l = (q : List ℕ) →
    (contains_text l.names q || is_among (drop l.name-index l.added) q) ≡ (contains_text l.fn.names q || is_among l.fn.added q)
