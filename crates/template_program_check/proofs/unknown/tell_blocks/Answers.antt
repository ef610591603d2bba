use Rattle.std.proofs.Common.{string_bytes}
use Rattle.std.specs.BTreeSet.{contains_text}
use Rattle.template_program_check.proofs.Walking.{blocks_next, blocks_none}
use Rattle.template_program_check.proofs.unknown.tell_blocks.Goals as goal

pub loop-block-preserved : goal.loop-block-preserved
loop-block-preserved c = λ after rest.
    c.loop-block.invariant after
    (blocks_next (contains_text c.args.stored.now) c.args.blocks.now c.loop-block.block-index c.block-item.result c.loop-block-test.true c.block-item.is
    (string_bytes c.loop-block.lines) (string_bytes c.tell_code.new.lines) c.in_ok-tell_code.ensures after rest)

pub returns : goal.returns
returns c =
    c.loop-block.invariant (string_bytes c.loop-block.lines)
    (blocks_none (contains_text c.args.stored.now) c.args.blocks.now c.loop-block.block-index c.loop-block-test.false (string_bytes c.loop-block.lines))
