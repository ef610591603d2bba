use Rattle.std.proofs.Common.{◌<◌, ◌≤◌, false, length, map, Bor, sym, ap, subst, ◌∙◌, arith}
use Rattle.std.proofs.lemmas.List.{take_all}
use Rattle.template_compiler_tree_parts.specs.Listed.{statements_in}
use Rattle.template_compiler_tree_statements.specs.declared.statements.Block.{Block as BlockNode}
use Rattle.template_compiler_walk.specs.Blocks.{blocks_in}
use Rattle.template_compiler_walk.specs.Runnable.{AreRunnableStatements}
use Rattle.template_compiler_names_needed.proofs.Runnable.{blocks_run}
use Rattle.template_compiled.specs.Streams.{stream_of}
use Rattle.template_compiled.proofs.Bodies.{all_streams, nodes_run, one_stream, streams_at}
use Rattle.template_compiled.proofs.streams.compile_blocks.Goals as goal

pub compile_block-requires : goal.compile_block-requires
compile_block-requires c =
    let tree = statements_in c.args.body.now in
    let nodes = c.in_ok-nodes.nodes.items in
    let counted = c.len-i-end.ensures in
    let within : c.loop-i.i < length nodes = omega (arith, counted, c.in_ok-nodes.nodes.ok.0) in
    subst (λ (n : Bor BlockNode). AreRunnableStatements false (statements_in n.now.body.items)) (sym c.index.ensures)
    (nodes_run nodes (blocks_in tree) c.in_ok-nodes.ensures (blocks_run false tree c.requires) c.loop-i.i c.index.result.now within)

pub loop-i-preserved : goal.loop-i-preserved
loop-i-preserved c =
    let nodes = c.in_ok-nodes.nodes.items in
    let counted = c.len-i-end.ensures in
    let within : c.loop-i.i < length nodes = omega (arith, counted, c.in_ok-nodes.nodes.ok.0) in
    one_stream nodes c.loop-i.i c.index.result.now c.loop-i.compiled.items c.push.new.self.items c.in_ok-compile_block.field-0 within c.index.ensures
    c.in_ok-push.ensures.items c.in_ok-compile_block.ensures.stream c.loop-i.invariant

pub returns-clause-streams : goal.returns-clause-streams
returns-clause-streams c =
    let nodes = c.in_ok-nodes.nodes.items in
    let counted = c.len-i-end.ensures in
    let past : length nodes ≤ c.loop-i.i = omega (arith, counted, c.in_ok-nodes.nodes.ok.0) in
    c.loop-i.invariant ∙ ap streams_at (take_all c.loop-i.i nodes past) ∙ all_streams nodes ∙ ap (map stream_of) c.in_ok-nodes.ensures
