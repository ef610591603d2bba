use Rattle.std.proofs.Common.{◌<◌, ◌≤◌, length, [], ◌++◌, append_assoc, append-nil, arith, ap, ◌∙◌}
use Rattle.template_compiler_tree_parts.specs.Within.{joined}
use Rattle.template_compiler_tree_parts.proofs.Picked.{all_done, one_more}
use Rattle.template_compiler_sources.specs.Own.{own_name}
use Rattle.template_compiler_sources.specs.Waiting.{texts_in}
use Rattle.template_compiler_sources.proofs.Blocks.{names_of}
use Rattle.template_compiler_sources.proofs.names.block_names.Goals as goal

pub loop-i-preserved : goal.loop-i-preserved
loop-i-preserved c =
    let counted = c.len-i-end.ensures in
    let within : c.loop-i.i < length c.in_ok-blocks.blocks.items = omega (arith, counted, c.in_ok-blocks.blocks.ok.0) in
    one_more [] ◌++◌ append_assoc append-nil own_name (texts_in c.loop-i.names.items) (texts_in c.take_name.new.names.items) c.in_ok-blocks.blocks.items
    c.loop-i.i c.index.result.now within c.index.ensures c.in_ok-take_name.ensures c.loop-i.invariant

pub returns : goal.returns
returns c =
    let counted = c.len-i-end.ensures in
    let past : length c.in_ok-blocks.blocks.items ≤ c.loop-i.i = omega (arith, counted, c.in_ok-blocks.blocks.ok.0) in
    all_done [] ◌++◌ append_assoc append-nil own_name (texts_in c.loop-i.names.items) c.in_ok-blocks.blocks.items c.loop-i.i
    past c.loop-i.invariant ∙ ap (joined [] ◌++◌ own_name) c.in_ok-blocks.ensures ∙ names_of c.args.body.now
