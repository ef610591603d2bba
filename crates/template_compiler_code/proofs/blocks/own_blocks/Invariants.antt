use Rattle.std.proofs.Common.{◌≡◌, ◌++◌, map}
use Rattle.template_compiler_code.specs.Streams.{stream_in}
use Rattle.template_compiler_code.proofs.blocks.own_blocks.Given as goal

-- what is copied and what is left are the blocks
abbrev pub invariant-loop-block : goal.invariant-loop-block
invariant-loop-block l = map stream_in l.copies.items ++ map stream_in l.block-iterator.rest.items ≡ map stream_in l.fn.blocks.items
