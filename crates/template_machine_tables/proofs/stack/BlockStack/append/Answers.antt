-- One body more is put behind those that are there.
use Rattle.std.proofs.Common.{ap, ◌∙◌, arith}
use Rattle.template_machine_meaning.specs.Bodies.{with_body}
use Rattle.template_machine_tables.specs.Streams.{home_of}
use Rattle.template_machine_tables.proofs.Lasting.{body_next, lasts_more}
use Rattle.template_machine_tables.proofs.stack.BlockStack.append.Goals as goal

pub loop-block-preserved : goal.loop-block-preserved
loop-block-preserved c =
    let home = home_of c.args.home in (
      body_next home c.args.blocks.now c.loop-block.block-index c.block-item.result c.loop-block.self c.add.new.self _ (omega arith) c.block-item.is
          c.loop-block.invariant.0 (c.in_ok-add.ensures.added ∙ ap (λ name. with_body home name c.loop-block.self) c.as_str.ensures.value),
      lasts_more home c.as_str.result.now c.args.self.now c.loop-block.self c.add.new.self c.loop-block.invariant.1 c.in_ok-add.ensures.added,
    )
