use Rattle.std.proofs.Common.{◌<◌, ◌≤◌, length, [], ◌++◌, append_assoc, append-nil, arith, ap, ◌∙◌}
use Rattle.template_compiler_tree_parts.specs.Within.{joined}
use Rattle.template_compiler_tree_parts.proofs.Picked.{all_done, one_more}
use Rattle.template_compiler_tree_parts.specs.Listed.{statements_in}
use Rattle.template_compiler_names_needed.specs.Seen.{own_blocks, trees_in}
use Rattle.template_compiler_names_needed.proofs.BlockTaking.{blocks_of}
use Rattle.template_compiler_names_needed.proofs.nodes.blocks.Goals as goal

pub loop-i-preserved : goal.loop-i-preserved
loop-i-preserved c =
    let found = c.in_ok-statements.statements.items in
    let counted = c.len-i-end.ensures in
    let within : c.loop-i.i < length found = omega (arith, counted, c.in_ok-statements.statements.ok.0) in
    one_more [] ◌++◌ append_assoc append-nil own_blocks (trees_in c.loop-i.nodes.items) (trees_in c.take_block.new.nodes.items) found c.loop-i.i c.index.result.now
    within c.index.ensures c.in_ok-take_block.ensures c.loop-i.invariant

pub returns : goal.returns
returns c =
    let found = c.in_ok-statements.statements.items in
    let counted = c.len-i-end.ensures in
    let past : length found ≤ c.loop-i.i = omega (arith, counted, c.in_ok-statements.statements.ok.0) in
    all_done [] ◌++◌ append_assoc append-nil own_blocks (trees_in c.loop-i.nodes.items) found c.loop-i.i past c.loop-i.invariant ∙
    ap (joined [] ◌++◌ own_blocks) c.in_ok-statements.ensures ∙ blocks_of (statements_in c.args.body.now)
