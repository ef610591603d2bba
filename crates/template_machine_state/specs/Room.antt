-- The room that is kept for loops that are closed.
use Rattle.std.specs.Prelude.{ℕ, suc, ◌+◌, ◌≤◌, List, [], ◌∷◌, Option, None, Some, is_some, vec_len, vec_capacity, if◌then◌else◌}
use Rattle.std.specs.Global.{Vec}
use Rattle.template_machine_meaning.specs.World.{Frame, Loop}

-- with a loop there is one more that may be kept, where it has its variable
abbrev pub one_more : Option Loop → ℕ → ℕ
one_more None n = n
one_more (Some l) n = if is_some l.variable then suc n else n

-- how many loops of frames may be kept as they are closed
abbrev pub open_loops : List Frame → ℕ
open_loops [] = 0
open_loops (f ∷ fs) = one_more f.loop (open_loops fs)

-- there is room for each of them behind those that were closed
abbrev pub HasRoom : List Frame → Vec Loop → Type 0
HasRoom frames closed = open_loops frames + vec_len closed ≤ vec_capacity closed
