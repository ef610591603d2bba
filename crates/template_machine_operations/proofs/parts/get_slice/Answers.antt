use Rattle.std.proofs.Common.{◌≡◌, ◌∙◌, false, sym}
use Rattle.template_values_operators.specs.Slices.{slice_of}
use Rattle.template_machine_meaning.specs.Undefined.{forbids_slicing}
use Rattle.template_machine_operations.proofs.Answering.{gives_answers}
use Rattle.template_machine_operations.proofs.parts.get_slice.Goals as goal

pub returns : goal.returns
returns c =
    let allowed : forbids_slicing c.args.mode c.args.value.now ≡ false = sym c.forbids_slicing.ensures ∙ c.if-forbids_slicing.false in
    rw allowed (gives_answers c.slice.result (slice_of c.args.value.now c.args.start.now c.args.stop.now c.args.step.now) c.slice.ensures.gives)
