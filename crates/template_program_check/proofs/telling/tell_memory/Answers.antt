use Rattle.std.proofs.Common.{subst}
use Rattle.template_program_output.specs.Lines.{error_line}
use Rattle.template_program_output.specs.Shown.{Puts}
use Rattle.template_program_check.proofs.telling.tell_memory.Goals as goal

pub returns : goal.returns
returns g c =
    subst (λ kinds. Puts (g.F.Output.shown c.args.fault.now) (g.F.Output.shown c.tell_error-2.new.fault) (error_line kinds)) c.new.ensures c.tell_error-2.ensures
