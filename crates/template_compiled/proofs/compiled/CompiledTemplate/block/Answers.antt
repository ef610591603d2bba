use Rattle.std.proofs.Common.{◌≡◌, ap, ◌∙◌, rules}
use Rattle.template_compiler_walk.specs.Blocks.{blocks_in}
use Rattle.template_compiled.specs.Sources.{tree_in}
use Rattle.template_compiler_code.specs.Streams.{stream_among, streams_in}
use Rattle.template_compiled.specs.Streams.{streams_of}
use Rattle.template_compiled.proofs.Bodies.{first_named}
use Rattle.template_compiled.proofs.compiled.CompiledTemplate.block.Goals as goal

pub returns : goal.returns
returns c =
    let name = c.args.name.now in
    let tree = tree_in c.args.self.now.source in
    let streams : streams_in c.deref.result.now ≡ streams_of tree = search rules in
    c.block_among.ensures ∙ ap (stream_among name) streams ∙ first_named name (blocks_in tree)
