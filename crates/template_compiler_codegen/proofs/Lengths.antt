-- How long the code of a core is does not depend on where `break` and `continue` lead.
use Rattle.std.proofs.Common.{◌≡◌, ℕ, ◌+◌, suc, Bool, true, false, List, ◌∷◌, [], length, refl, ap, ◌∙◌, length-append, arith}
use Rattle.template_compiler_tree.specs.Tree.{Statements}
use Rattle.template_compiler_code.specs.Code.{Code, jump}
use Rattle.template_compiler_codegen.specs.Core.{Coded, then_code, either_code, Ways, closing_with, left_by, choose, Core, both, leaping, either, within, leave, chosen, flat}
use Rattle.template_compiler_codegen.specs.Statements.{statements_core, statements_code}

-- two pieces are as long as each other at each place
abbrev pub AsLong : Coded → Coded → Type 0
AsLong f g = (place : ℕ) → length (f place) ≡ length (g place)

long_then : (f g h i : Coded) → AsLong f g → AsLong h i → AsLong (then_code f h) (then_code g i)
long_then f g h i first second place =
    let at : length (h (place + length (f place))) ≡ length (i (place + length (g place))) =
    second (place + length (f place)) ∙ ap (λ n. length (i (place + n))) (first place) in
    omega (arith, length-append (f place) (h (place + length (f place))), length-append (g place) (i (place + length (g place))), first place)

long_either : (f g h i : Coded) → AsLong f g → AsLong h i → AsLong (either_code f h) (either_code g i)
long_either f g h i first second place =
    let a = suc (suc place + length (f (suc place))) in
    let b = suc (suc place + length (g (suc place))) in
    let at : length (h a) ≡ length (i b) = second a ∙ ap (λ n. length (i (suc (suc place + n)))) (first (suc place)) in
    omega (arith, length-append (f (suc place)) (jump (a + length (h a)) ∷ h a), length-append (g (suc place)) (jump (b + length (i b)) ∷ i b), first (suc place))

long_out : (a b : List Code) (m n : ℕ) → length a ≡ length b → AsLong (left_by a m) (left_by b n)
long_out a b m n same place = omega (arith, length-append a (jump m ∷ []), length-append b (jump n ∷ []))

long_choose : (holds : Bool) (f g h i : Coded) → AsLong f g → AsLong h i → AsLong (choose holds f h) (choose holds g i)
long_choose true f g h i first second = first
long_choose false f g h i first second = second

pub long_core : (c : Core) (ways other : Ways) → length ways.closings ≡ length other.closings → AsLong (flat ways c) (flat other c)
long_core (both a b) ways other same = long_then (flat ways a) (flat other a) (flat ways b) (flat other b) (long_core a ways other same) (long_core b ways other same)
long_core (leaping leap c) ways other same = λ place. ap suc (long_core c ways other same (suc place))
long_core (either a b) ways other same = long_either (flat ways a) (flat other a) (flat ways b) (flat other b) (long_core a ways other same) (long_core b ways other same)
long_core (within close c) ways other same = long_core c (closing_with close ways) (closing_with close other) (ap suc same)
long_core (leave true) ways other same = long_out ways.closings other.closings ways.break_to other.break_to same
long_core (leave false) ways other same = long_out ways.closings other.closings ways.continue_to other.continue_to same
long_core (chosen holds a b) ways other same = long_choose holds (flat ways a) (flat other a) (flat ways b) (flat other b) (long_core a ways other same) (long_core b ways other same)
long_core _ ways other same = λ place. refl

pub long_statements : (ss : Statements) (ways other : Ways) → length ways.closings ≡ length other.closings → AsLong (statements_code ways ss) (statements_code other ss)
long_statements ss ways other same = long_core (statements_core ss) ways other same
