-- The first place in a text that passes a test, and what stands around it.
use Rattle.std.proofs.Common.{arith, ◌≡◌, ℕ, ◌≤◌, Bool, cond, ltb, List, length, Some, None, unwrap_or}
use Rattle.std.specs.List.{position_or_len}
use Rattle.std.proofs.lemmas.Bool.Decides.{nat_tests}
use Rattle.std.proofs.lemmas.List.Sums.{prefix_len-le-length}

pub place-le : (p : ℕ → Bool) (s : List ℕ) → position_or_len p s ≤ length s
place-le p s = prefix_len-le-length _ s

pub place_or_length : (n len : ℕ) → n ≤ len → unwrap_or (cond (ltb n len) (Some n) None) len ≡ n
place_or_length n len h = grind (arith, nat_tests)
