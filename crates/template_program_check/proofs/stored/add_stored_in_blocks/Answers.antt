use Rattle.std.proofs.Common.{◌||◌}
use Rattle.std.specs.BTreeSet.{contains_text}
use Rattle.template_compiler_code.specs.Streams.{streams_in}
use Rattle.template_program_check.specs.Names.{is_stored_in_blocks}
use Rattle.template_program_check.proofs.Walking.{stored_blocks_next, stored_blocks_none}
use Rattle.template_program_check.proofs.stored.add_stored_in_blocks.Goals as goal

pub loop-block-preserved : goal.loop-block-preserved
loop-block-preserved c = λ name.
    stored_blocks_next c.args.blocks.now c.loop-block.block-index c.block-item.result c.loop-block-test.true c.block-item.is name
    (contains_text c.loop-block.names name) (contains_text c.add_stored_in.new.names name)
    (contains_text c.args.names.now name || is_stored_in_blocks (streams_in c.args.blocks.now) name)
    (c.in_ok-add_stored_in.ensures name) (c.loop-block.invariant name)

pub returns : goal.returns
returns c = λ name.
    stored_blocks_none c.args.blocks.now c.loop-block.block-index c.loop-block-test.false name (contains_text c.loop-block.names name)
    (contains_text c.args.names.now name || is_stored_in_blocks (streams_in c.args.blocks.now) name) (c.loop-block.invariant name)
