-- A macro is found under the number that its declaration makes.
use Rattle.std.proofs.Common.{◌≡◌, ℕ, ◌+◌, ◌<◌, ◌≤◌, List, Some, ap, ◌∙◌, arith}
use Rattle.template_compiler_tree.specs.Tree.{Expression, Expressions, Arguments, Statement, Statements, macro, call_block}
use Rattle.template_compiler_process.specs.Process.{Counts, no_counts}
use Rattle.template_compiler_walk.specs.Expressions.{callee_of}
use Rattle.template_compiler_walk.specs.Counting.{MacroBody, caller_counts, counts_among, counts_by, macro_among, macro_by}
use Rattle.template_compiler_walk.specs.Standing.{Enters, IsMade, Stands, behind_rounds, here, in_branch, in_caller, in_escape, in_filter, in_macro, in_other, in_rounds, in_set, in_with, later, within}
use Rattle.template_compiler_walk.proofs.Below.{below_first, below_second, caller_found, caller_made}

abbrev many : Statements → ℕ
many tree = (counts_among tree).macros

-- what a body counts is part of what its statement counts
caller_many : (callee : Expression) (passed : Arguments) (body : Statements) → IsMade (callee_of callee passed)
    → (caller_counts (callee_of callee passed) (counts_among body)).macros ≡ many body + 1
caller_many callee passed body made = ap (λ (c : Counts). c.macros) (caller_made (callee_of callee passed) (counts_among body) made)

enters_from : {t : Statement} {before inner : Counts} {body : Statements} → Enters t before body inner → before.macros ≤ inner.macros
enters_from in_rounds = omega arith
enters_from behind_rounds = omega arith
enters_from in_branch = omega arith
enters_from in_other = omega arith
enters_from in_with = omega arith
enters_from in_set = omega arith
enters_from in_escape = omega arith
enters_from in_filter = omega arith
enters_from in_macro = omega arith
enters_from (in_caller made) = omega arith

enters_to : {t : Statement} {before inner : Counts} {body : Statements} → Enters t before body inner
    → inner.macros + many body ≤ before.macros + (counts_by t).macros
enters_to in_rounds = omega arith
enters_to behind_rounds = omega arith
enters_to in_branch = omega arith
enters_to in_other = omega arith
enters_to in_with = omega arith
enters_to in_set = omega arith
enters_to in_escape = omega arith
enters_to in_filter = omega arith
enters_to in_macro = omega arith
enters_to (in_caller {callee = callee} {passed = passed} {body = body} made) = let is = caller_many callee passed body made in omega (arith, is)

stands_from : {s : Statement} {first before : Counts} {tree : Statements} → Stands s first tree before → before.macros ≤ first.macros
stands_from here = omega arith
stands_from (later rest) = let from = stands_from rest in omega (arith, from)
stands_from (within enters rest) = let from = stands_from rest in let in_from = enters_from enters in omega (arith, from, in_from)

stands_to : {s : Statement} {first before : Counts} {tree : Statements} → Stands s first tree before
    → first.macros + (counts_by s).macros ≤ before.macros + many tree
stands_to here = omega arith
stands_to (later rest) = let to = stands_to rest in omega (arith, to)
stands_to (within enters rest) = let to = stands_to rest in let in_to = enters_to enters in omega (arith, to, in_to)

-- what is found in a body is found in its statement
in_statement : (number : ℕ) (m : MacroBody) {t : Statement} {before inner : Counts} {body : Statements} → Enters t before body inner
    → inner.macros ≤ number → number < inner.macros + many body → macro_among number inner body ≡ Some m → macro_by number before t ≡ Some m
in_statement number m in_rounds from to is = below_first number _ _ _ to ∙ is
in_statement number m behind_rounds from to is = below_second number _ _ _ from ∙ is
in_statement number m in_branch from to is = below_first number _ _ _ to ∙ is
in_statement number m in_other from to is = below_second number _ _ _ from ∙ is
in_statement number m in_with from to is = is
in_statement number m in_set from to is = is
in_statement number m in_escape from to is = is
in_statement number m in_filter from to is = is
in_statement number m in_macro from to is = below_first number _ _ _ to ∙ is
in_statement number m (in_caller {callee = callee} {passed = passed} made) from to is =
    caller_found (callee_of callee passed) _ made ∙ below_first number _ _ _ to ∙ is

-- and in the tree
in_tree : (number : ℕ) (m : MacroBody) {s : Statement} {first before : Counts} {tree : Statements} → Stands s first tree before
    → first.macros ≤ number → number < first.macros + (counts_by s).macros → macro_by number first s ≡ Some m → macro_among number before tree ≡ Some m
in_tree number m here from to is = below_first number _ _ _ to ∙ is
in_tree number m (later rest) from to is =
    let before_it = stands_from rest in below_second number _ _ _ (omega (arith, before_it, from)) ∙ in_tree number m rest from to is
in_tree number m (within enters rest) from to is =
    let start = stands_from rest in
    let end = stands_to rest in
    let within_it = enters_to enters in
    below_first number _ _ _ (omega (arith, to, end, within_it))
    ∙ in_statement number m enters (omega (arith, start, from)) (omega (arith, to, end)) (in_tree number m rest from to is)

pub macro_found : (tree : Statements) (first : Counts) (name : List ℕ) (arguments defaults : Expressions) (body : Statements)
    → Stands (macro name arguments defaults body) first tree no_counts
    → macro_among (first.macros + many body) no_counts tree ≡ Some (record { arguments = arguments; defaults = defaults; body = body; first = first })
macro_found tree first name arguments defaults body stands =
    in_tree (first.macros + many body) (record { arguments = arguments; defaults = defaults; body = body; first = first }) stands (omega arith) (omega arith)
    (below_second (first.macros + many body) (first.macros + many body) _ _ (omega arith))

pub caller_body_found : (tree : Statements) (first : Counts) (callee : Expression) (passed : Arguments) (arguments defaults : Expressions) (body : Statements)
    → IsMade (callee_of callee passed) → Stands (call_block callee passed arguments defaults body) first tree no_counts
    → macro_among (first.macros + many body) no_counts tree ≡ Some (record { arguments = arguments; defaults = defaults; body = body; first = first })
caller_body_found tree first callee passed arguments defaults body made stands =
    let is = caller_many callee passed body made in
    in_tree (first.macros + many body) (record { arguments = arguments; defaults = defaults; body = body; first = first }) stands (omega arith) (omega (arith, is))
    (caller_found (callee_of callee passed) _ made ∙ below_second (first.macros + many body) (first.macros + many body) _ _ (omega arith))
