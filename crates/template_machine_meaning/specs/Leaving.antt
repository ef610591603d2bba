-- What stays of loops whose frames go.
use Rattle.std.specs.Prelude.{ℕ, ◌-◌, Bool, ◌&&◌, nat_lt, List, [], ◌∷◌, ◌++◌, length, take, Option, None, Some, is_some, if◌then◌else◌}
use Rattle.template_values_model.specs.Val.{Val}
use Rattle.template_machine_meaning.specs.World.{Loop, World, drop_given}
use Rattle.template_machine_meaning.specs.Records.{loops_of}

-- whether a loop has its variable, and is one of so many that were opened first
abbrev pub is_below : ℕ → Loop → Bool
is_below count l = is_some l.variable && nat_lt l.number count

-- whether a namespace or a closure may hold the loop's value, or what callables have set
abbrev pub is_held : World → Loop → Bool
is_held w l = is_below w.held l

-- the loop came to its end: it stays known where its value may be held; else nothing is left
abbrev pub loop_left : World → Loop → World
loop_left w l =
    if is_held w l then record w { closed = w.closed ++ l ∷ [] } else record w { given = drop_given l.number w.given }

-- the loops of the frames that go where so many stay, the outermost ones
abbrev pub loops_behind : ℕ → World → List (Option Loop)
loops_behind count w = take (length w.frames - count) (loops_of w.frames)

-- of such loops those that stay known
abbrev pub held_among : ℕ → List (Option Loop) → List Loop
held_among count [] = []
held_among count (None ∷ loops) = held_among count loops
held_among count (Some l ∷ loops) = if is_below count l then l ∷ held_among count loops else held_among count loops

-- and what `changed` was called with for the others is forgotten
abbrev pub given_behind : ℕ → List (Option Loop) → List (ℕ × List Val) → List (ℕ × List Val)
given_behind count [] given = given
given_behind count (None ∷ loops) given = given_behind count loops given
given_behind count (Some l ∷ loops) given = given_behind count loops (if is_below count l then given else drop_given l.number given)
