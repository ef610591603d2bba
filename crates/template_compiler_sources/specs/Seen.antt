-- Which names were seen.
use Rattle.std.specs.Prelude.{ℕ, Bool, List}
use Rattle.std.specs.Borrow.{Bor}
use Rattle.std.specs.Ordering.{nat_cmp}
use Rattle.std.specs.Cmp.Lexicographic.{slice_cmp}
use Rattle.std.specs.BTreeSet.{BTreeSet, contains_by}

abbrev pub has_seen : BTreeSet (Bor (List ℕ)) → List ℕ → Bool
has_seen seen name = contains_by (λ other. slice_cmp nat_cmp name other.now) seen
