use Rattle.std.proofs.Common.{subst}
use Rattle.template_program_output.specs.Shown.{Writes}
use Rattle.template_program_run.proofs.telling.tell_text.Goals as goal

pub returns : goal.returns
returns g c = (
  c.write_whole.result,
  subst (λ text. Writes (g.F.Output.shown c.args.fault.now) (g.F.Output.shown c.write_whole.new.out) text c.write_whole.result) c.as_bytes.ensures.value c.write_whole.ensures,
)
