use Rattle.std.proofs.Common.{◌≡◌, ℕ, List, ◌++◌, length}
use Rattle.std.specs.Io.KnownBytes.{Appends}
use Rattle.template_machine_surroundings.proofs.output.write_bytes.Given as goal

-- what was taken so far is what stands in the text before the rest, and no failure was met
abbrev pub invariant-loop-rest : goal.invariant-loop-rest
invariant-loop-rest g l = (written : List ℕ) × (l.bytes ≡ written ++ l.rest)
    × Appends (g.S.Sink.taken l.fn.sink) (g.S.Sink.taken l.sink) written
    × g.S.Sink.can_take l.rest
    × (g.S.Sink.failures l.sink ≡ g.S.Sink.failures l.fn.sink)

abbrev pub decreases-loop-rest : goal.decreases-loop-rest
decreases-loop-rest g l = length l.rest
