use Rattle.template_compiler_code.specs.Code as codes
use Rattle.template_machine_meaning.specs.World.{empty_frame}
use Rattle.template_machine_meaning.specs.Surroundings.{pushed}
use Rattle.template_machine_acts.proofs.Framing.{open_frame_acts}
use Rattle.template_machine_steps.specs.Performs.{spot, ruled}
use Rattle.template_machine_perform.proofs.Scoping.{pushed_spares, became_out}
use Rattle.template_machine_perform.proofs.frames.push_with.Goals as goal

pub returns : goal.returns
returns c program mode operands =
    became_out (ruled program c.args.limit mode) codes.push_with operands c.args.state.now _ operands _ (pushed c.args.limit c.args.state.now empty_frame)
    (λ before place left taken. open_frame_acts (ruled program c.args.limit mode) before (spot place operands c.args.state.now left taken)) (pushed_spares c.args.limit c.args.state.now empty_frame) c.open_frame.ensures
