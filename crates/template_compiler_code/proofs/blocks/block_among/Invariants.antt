-- The first of the name is among those that are left.
use Rattle.std.proofs.Common.{◌≡◌, drop}
use Rattle.template_compiler_code.specs.Streams.{stream_among, streams_in}
use Rattle.template_compiler_code.proofs.blocks.block_among.Given as goal

abbrev pub invariant-loop-block : goal.invariant-loop-block
invariant-loop-block l = stream_among l.name (streams_in (drop l.block-index l.blocks)) ≡ stream_among l.name (streams_in l.blocks)
