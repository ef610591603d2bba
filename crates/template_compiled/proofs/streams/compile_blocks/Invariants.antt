-- The streams so far.
use Rattle.std.proofs.Common.{◌≡◌, take}
use Rattle.template_compiler_code.specs.Streams.{streams_in}
use Rattle.template_compiled.proofs.Bodies.{streams_at}
use Rattle.template_compiled.proofs.streams.compile_blocks.Given as goal

abbrev pub invariant-loop-i : goal.invariant-loop-i
invariant-loop-i l = streams_in l.compiled.items ≡ streams_at (take l.i l.nodes.items)
