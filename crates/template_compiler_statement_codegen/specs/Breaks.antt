-- The places of the jumps of a loop's breaks, which are told their target at the end of the loop.
use Rattle.std.specs.Prelude.{ℕ, ◌+◌, suc, Bool, true, false, List, [], ◌∷◌, ◌++◌, length}
use Rattle.std.proofs.Math.ListN.{set}
use Rattle.template_compiler_tree.specs.Tree.{Statement, Statements}
use Rattle.template_compiler_code.specs.Code.{Code, push_did_not_iterate, pop_loop_frame, jump}
use Rattle.template_compiler_codegen.specs.Core.{Coded, one, Ways, closing_with, Core, both, leaping, either, within, leave, chosen, flat}
use Rattle.template_compiler_codegen.specs.Statements.{are_some, statement_core, statements_core}

-- places in a piece of code that begins at any place
abbrev pub Places : Type 0
Places = ℕ → List ℕ

abbrev pub no_places : Places
no_places place = []

-- those of a piece, and those of another one behind it
abbrev pub then_places : Coded → Places → Places → Places
then_places code first second place = first place ++ second (place + length (code place))

-- those of a piece behind one instruction
abbrev pub next_places : Places → Places
next_places places place = places (suc place)

-- those of two branches, of which each follows a jump
abbrev pub either_places : Coded → Places → Places → Places
either_places first places others place = places (suc place) ++ others (suc (suc place + length (first (suc place))))

-- those of the piece that is told by the choice
abbrev pub choose_places : Bool → Places → Places → Places
choose_places true first second = first
choose_places false first second = second

-- the breaks in a core; of a loop the own breaks lead to its own end
abbrev pub breaks : Ways → Core → Places
breaks ways (both a b) = then_places (flat ways a) (breaks ways a) (breaks ways b)
breaks ways (leaping leap c) = next_places (breaks ways c)
breaks ways (either a b) = either_places (flat ways a) (breaks ways a) (breaks ways b)
breaks ways (within close c) = breaks (closing_with close ways) c
breaks ways (leave true) = λ place. (place + length ways.closings) ∷ []
breaks ways (chosen holds a b) = choose_places holds (breaks ways a) (breaks ways b)
breaks ways _ = no_places

abbrev pub breaks_of : Ways → Statement → Places
breaks_of ways s = breaks ways (statement_core s)

abbrev pub breaks_in : Ways → Statements → Places
breaks_in ways ss = breaks ways (statements_core ss)

abbrev pub branches_places : Statements → Coded → Places → Places → Places
branches_places ss body places others = choose_places (are_some ss) (either_places body places others) (next_places places)

-- those in an else part, which stands behind the end of the rounds
abbrev pub loop_end_places : Statements → Places → Places
loop_end_places ss others =
    choose_places (are_some ss) (then_places (one push_did_not_iterate) no_places (then_places (one pop_loop_frame) no_places (next_places others)))
    no_places

-- the jumps at the places lead to a target
abbrev pub led : ℕ → List ℕ → List Code → List Code
led to [] code = code
led to (place ∷ places) code = set (led to places code) place (jump to)
