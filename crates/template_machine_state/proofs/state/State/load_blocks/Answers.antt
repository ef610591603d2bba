-- The blocks are as they were where there is no room for what else is to be kept.
use Rattle.std.proofs.Common.{ap}
use Rattle.template_machine_meaning.specs.World.{World}
use Rattle.template_machine_state.proofs.Keeping.{same_blocks}
use Rattle.template_machine_state.proofs.state.State.load_blocks.Goals as goal

pub returns-in_err-reserve-clause-kept : goal.returns-in_err-reserve-clause-kept
returns-in_err-reserve-clause-kept c = same_blocks c.from_residual.result c.args.self.now.blocks c.self.inside.blocks (ap (λ (w : World). w.blocks) c.self.view_is)

pub returns-in_err-reserve-2-clause-kept : goal.returns-in_err-reserve-2-clause-kept
returns-in_err-reserve-2-clause-kept c =
    same_blocks c.from_residual-in_err-reserve-2.result c.args.self.now.blocks c.self.inside.blocks (ap (λ (w : World). w.blocks) c.self.view_is)
