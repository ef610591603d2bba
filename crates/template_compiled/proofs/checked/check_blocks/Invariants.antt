use Rattle.std.proofs.Common.{◌≡◌, ◌++◌, map}
use Rattle.std.specs.List.{All}
use Rattle.template_compiler_code.specs.Streams.{stream_in}
use Rattle.template_compiled.specs.Checked.{IsGoodBlock, IsOfTemplate, checked_stream}
use Rattle.template_compiled.proofs.checked.check_blocks.Given as goal

-- what was checked and what is left are the blocks; what is left is good
abbrev pub invariant-loop-block : goal.invariant-loop-block
invariant-loop-block l =
    (map checked_stream l.checked.items ++ map stream_in l.block-iterator.rest.items ≡ map stream_in l.fn.blocks.items)
    × All IsOfTemplate l.checked.items × All IsGoodBlock l.block-iterator.rest.items
