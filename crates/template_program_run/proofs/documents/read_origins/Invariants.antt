-- The documents so far are what stands at the origins so far.
use Rattle.std.proofs.Common.{ℕ, List, Some, map, take}
use Rattle.template_program_run.specs.Held.{held_as, origin_in}
use Rattle.template_program_run.specs.Origins.{AreFrom}
use Rattle.template_program_run.proofs.documents.read_origins.Given as goal

abbrev pub invariant-loop-origin : goal.invariant-loop-origin
invariant-loop-origin g l = (piped : List ℕ)
    → AreFrom (g.R.FileSystem.content l.rt) (Some piped) (map origin_in (take l.origin-index l.origins)) (map (held_as piped) l.documents.items)
