-- What is written so far was taken, and no write has failed.
use Rattle.std.proofs.Common.{◌≤◌, length, take, Ok}
use Rattle.std.specs.Io.KnownBytes.{Appends}
use Rattle.template_program_output.specs.Shown.{TellsResult}
use Rattle.template_program_output.proofs.whole.write_out.Given as goal

abbrev pub invariant-loop-turn : goal.invariant-loop-turn
invariant-loop-turn g l =
    (l.written ≤ length l.bytes)
    × Appends (g.O.Output.shown l.fn.out).bytes (g.O.Output.shown l.out).bytes (take l.written l.bytes)
    × TellsResult (g.O.Output.shown l.fn.out).answers (g.O.Output.shown l.out).answers (Ok tt)
