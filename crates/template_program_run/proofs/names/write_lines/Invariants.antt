use Rattle.std.proofs.Common.{◌≡◌, ℕ, List, ◌++◌}
use Rattle.std.specs.Io.KnownBytes.{Appends}
use Rattle.template_program_run.specs.Lines.{lines_of}
use Rattle.template_program_run.proofs.names.write_lines.Given as goal

-- the lines so far are written, and the rest is left
abbrev pub invariant-loop-name : goal.invariant-loop-name
invariant-loop-name g l = record {
  whole : (written : List ℕ) × (lines_of l.names.keys ≡ written ++ lines_of l.name-iterator) × Appends (g.S.Sink.taken l.fn.sink) (g.S.Sink.taken l.sink) written;
  quiet : g.S.Sink.failures l.sink ≡ g.S.Sink.failures l.fn.sink;
}
