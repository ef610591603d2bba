-- In which of two places a number is.
use Rattle.std.proofs.Common.{◌≡◌, ℕ, ◌+◌, ◌<◌, ◌≤◌, ◌==◌, Bool, true, false, if◌then◌else◌, nat_lt, Option, Some, ap, refl, arith}
use Rattle.std.proofs.lemmas.Bool.Decides.{nat_tests}
use Rattle.template_compiler_process.specs.Process.{Counts}
use Rattle.template_compiler_walk.specs.Expressions.{Callee, by_block}
use Rattle.template_compiler_walk.specs.Counting.{LoopRounds, below_or, caller_counts, loop_counts, macro_counts, rounds_or, within_caller}
use Rattle.template_compiler_walk.specs.Standing.{IsMade}

pub below_first : {X : Type 0} (n mid : ℕ) (o p : Option X) → n < mid → below_or n mid o p ≡ o
below_first n mid o p h = let is : nat_lt n mid ≡ true = grind (arith, nat_tests) in ap (λ (b : Bool). if b then o else p) is

pub below_second : {X : Type 0} (n mid : ℕ) (o p : Option X) → mid ≤ n → below_or n mid o p ≡ p
below_second n mid o p h = let is : nat_lt n mid ≡ false = grind (arith, nat_tests) in ap (λ (b : Bool). if b then o else p) is

-- the body of a call block counts, and is found, where it is made a macro
pub caller_made : (c : Callee) (inner : Counts) → IsMade c → caller_counts c inner ≡ macro_counts inner
caller_made (by_block name) inner made = absurd made
caller_made _ inner made = refl

pub caller_found : {X : Type 0} (c : Callee) (o : Option X) → IsMade c → within_caller c o ≡ o
caller_found (by_block name) o made = absurd made
caller_found _ o made = refl

-- a loop itself has the number before those in it
pub rounds_own : (first : Counts) (own : LoopRounds) (o : Option LoopRounds) → rounds_or true first.rounds first own o ≡ Some own
rounds_own first own o =
    let same : (first.rounds == first.rounds) ≡ true = grind (arith, nat_tests) in ap (λ (b : Bool). if b then Some own else o) same

pub rounds_inner : (recursive : Bool) (number : ℕ) (first : Counts) (own : LoopRounds) (o : Option LoopRounds)
    → first.rounds + (loop_counts recursive).rounds ≤ number → rounds_or recursive number first own o ≡ o
rounds_inner true number first own o h =
    let other : (number == first.rounds) ≡ false = grind (arith, nat_tests) in ap (λ (b : Bool). if b then Some own else o) other
rounds_inner false number first own o h = refl
