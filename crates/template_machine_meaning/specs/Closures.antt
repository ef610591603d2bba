-- Closures: what macros see of the scopes in which they were made. A frame's stores go into its closure too.
use Rattle.std.specs.Prelude.{ℕ, Bool, false, List, [], ◌∷◌, ◌++◌, length, slice_get, slice_set, Option, None, Some, is_some, if◌then◌else◌}
use Rattle.template_values_model.specs.Val.{Val}
use Rattle.template_machine_meaning.specs.World.{Bindings, Frame, World, closure_of, local_at, put_local, value_named}
use Rattle.template_machine_meaning.specs.Namespaces.{may_hold_loop}

-- what holds a loop's value from now on keeps it known
abbrev pub held_by : World → Val → ℕ
held_by w v = if may_hold_loop v then w.opened else w.held

-- the closure of a number has the value under the name from now on; where there is none all stays
abbrev pub put_at : World → ℕ → List ℕ → Val → Option Bindings → World
put_at w number name v None = w
put_at w number name v (Some held) = record w { closures = slice_set w.closures number (put_local name v held); held = held_by w v }

abbrev pub put_in_closure : Option ℕ → List ℕ → Val → World → World
put_in_closure None name v w = w
put_in_closure (Some number) name v w = put_at w number name v (slice_get w.closures number)

-- the innermost frame has the value under the name, and so has the closure that it writes
abbrev pub stored : List ℕ → Val → Frame → List Frame → World → World
stored name v f fs w = put_in_closure f.writes name v (record w { frames = record f { locals = put_local name v f.locals } ∷ fs })

-- whether there is a closure of the number
abbrev pub stands : World → Option ℕ → Bool
stands w None = false
stands w (Some number) = is_some (slice_get w.closures number)

-- the first name that a frame encloses makes the closure that it writes
abbrev pub writing : Frame → List Frame → World → World
writing f fs w =
    if stands w f.writes then w
    else record w { frames = record f { writes = Some (length w.closures) } ∷ fs; closures = w.closures ++ [] ∷ [] }

abbrev pub writes_of : List Frame → Option ℕ
writes_of [] = None
writes_of (f ∷ fs) = f.writes

-- the closure has the name: what it stands for now, unless it has it already
abbrev pub enclosing : List ℕ → World → World
enclosing name w =
    if is_some (local_at name (closure_of w.closures (writes_of w.frames))) then w
    else put_in_closure (writes_of w.frames) name (value_named name w) w
