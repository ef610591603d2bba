-- The rounds of a loop are found under the number that it is opened with.
use Rattle.std.proofs.Common.{◌≡◌, ℕ, ◌+◌, ◌<◌, ◌≤◌, true, Some, ap, ◌∙◌, arith}
use Rattle.template_compiler_tree.specs.Tree.{Expression, Optional, Arguments, Statement, Statements, for_loop}
use Rattle.template_compiler_process.specs.Process.{Counts, no_counts, counted_together}
use Rattle.template_compiler_walk.specs.Expressions.{callee_of}
use Rattle.template_compiler_walk.specs.Counting.{LoopRounds, caller_counts, counts_among, counts_by, loop_counts, rounds_among, rounds_by}
use Rattle.template_compiler_walk.specs.Standing.{Enters, IsMade, Stands, behind_rounds, here, in_branch, in_caller, in_escape, in_filter, in_macro, in_other, in_rounds, in_set, in_with, later, within}
use Rattle.template_compiler_walk.proofs.Below.{below_first, below_second, caller_found, caller_made, rounds_inner, rounds_own}

abbrev many : Statements → ℕ
many tree = (counts_among tree).rounds

-- what a body counts is part of what its statement counts
caller_many : (callee : Expression) (passed : Arguments) (body : Statements) → IsMade (callee_of callee passed)
    → (caller_counts (callee_of callee passed) (counts_among body)).rounds ≡ many body + 0
caller_many callee passed body made = ap (λ (c : Counts). c.rounds) (caller_made (callee_of callee passed) (counts_among body) made)

enters_from : {t : Statement} {before inner : Counts} {body : Statements} → Enters t before body inner → before.rounds ≤ inner.rounds
enters_from in_rounds = omega arith
enters_from behind_rounds = omega arith
enters_from in_branch = omega arith
enters_from in_other = omega arith
enters_from in_with = omega arith
enters_from in_set = omega arith
enters_from in_escape = omega arith
enters_from in_filter = omega arith
enters_from in_macro = omega arith
enters_from (in_caller made) = omega arith

enters_to : {t : Statement} {before inner : Counts} {body : Statements} → Enters t before body inner
    → inner.rounds + many body ≤ before.rounds + (counts_by t).rounds
enters_to in_rounds = omega arith
enters_to behind_rounds = omega arith
enters_to in_branch = omega arith
enters_to in_other = omega arith
enters_to in_with = omega arith
enters_to in_set = omega arith
enters_to in_escape = omega arith
enters_to in_filter = omega arith
enters_to in_macro = omega arith
enters_to (in_caller {callee = callee} {passed = passed} {body = body} made) = let is = caller_many callee passed body made in omega (arith, is)

stands_from : {s : Statement} {first before : Counts} {tree : Statements} → Stands s first tree before → before.rounds ≤ first.rounds
stands_from here = omega arith
stands_from (later rest) = let from = stands_from rest in omega (arith, from)
stands_from (within enters rest) = let from = stands_from rest in let in_from = enters_from enters in omega (arith, from, in_from)

stands_to : {s : Statement} {first before : Counts} {tree : Statements} → Stands s first tree before
    → first.rounds + (counts_by s).rounds ≤ before.rounds + many tree
stands_to here = omega arith
stands_to (later rest) = let to = stands_to rest in omega (arith, to)
stands_to (within enters rest) = let to = stands_to rest in let in_to = enters_to enters in omega (arith, to, in_to)

-- what is found in a body is found in its statement
in_statement : (number : ℕ) (r : LoopRounds) {t : Statement} {before inner : Counts} {body : Statements} → Enters t before body inner
    → inner.rounds ≤ number → number < inner.rounds + many body → rounds_among number inner body ≡ Some r → rounds_by number before t ≡ Some r
in_statement number r (in_rounds {first = first} {recursive = recursive}) from to is =
    rounds_inner recursive number first _ _ from ∙ below_first number _ _ _ to ∙ is
in_statement number r (behind_rounds {first = first} {recursive = recursive}) from to is =
    rounds_inner recursive number first _ _ (omega (arith, from)) ∙ below_second number _ _ _ from ∙ is
in_statement number r in_branch from to is = below_first number _ _ _ to ∙ is
in_statement number r in_other from to is = below_second number _ _ _ from ∙ is
in_statement number r in_with from to is = is
in_statement number r in_set from to is = is
in_statement number r in_escape from to is = is
in_statement number r in_filter from to is = is
in_statement number r in_macro from to is = is
in_statement number r (in_caller {callee = callee} {passed = passed} made) from to is = caller_found (callee_of callee passed) _ made ∙ is

-- and in the tree
in_tree : (number : ℕ) (r : LoopRounds) {s : Statement} {first before : Counts} {tree : Statements} → Stands s first tree before
    → first.rounds ≤ number → number < first.rounds + (counts_by s).rounds → rounds_by number first s ≡ Some r → rounds_among number before tree ≡ Some r
in_tree number r here from to is = below_first number _ _ _ to ∙ is
in_tree number r (later rest) from to is =
    let before_it = stands_from rest in below_second number _ _ _ (omega (arith, before_it, from)) ∙ in_tree number r rest from to is
in_tree number r (within enters rest) from to is =
    let start = stands_from rest in
    let end = stands_to rest in
    let within_it = enters_to enters in
    below_first number _ _ _ (omega (arith, to, end, within_it))
    ∙ in_statement number r enters (omega (arith, start, from)) (omega (arith, to, end)) (in_tree number r rest from to is)

pub rounds_found : (tree : Statements) (first : Counts) (target e : Expression) (condition : Optional) (body otherwise : Statements)
    → Stands (for_loop target e condition true body otherwise) first tree no_counts
    → rounds_among first.rounds no_counts tree
    ≡ Some (record { target = target; body = body; otherwise = otherwise; first = counted_together first (loop_counts true) })
rounds_found tree first target e condition body otherwise stands =
    in_tree first.rounds (record { target = target; body = body; otherwise = otherwise; first = counted_together first (loop_counts true) }) stands (omega arith) (omega arith)
    (rounds_own first _ _)
