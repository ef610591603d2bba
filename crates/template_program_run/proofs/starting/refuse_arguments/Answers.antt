use Rattle.std.proofs.Common.{◌≡◌, ℕ, codes, rules, subst}
use Rattle.std.specs.IoError.{error_kind}
use Rattle.template_program_output.specs.Lines.{fault_line}
use Rattle.template_program_output.specs.Shown.{Puts}
use Rattle.template_program_run.specs.Starts.{arguments_line}
use Rattle.template_program_run.specs.Status.{arguments_status}
use Rattle.template_program_run.proofs.starting.refuse_arguments.Goals as goal

pub returns-in_default : goal.returns-in_default
returns-in_default g c =
    let status : ◌≡◌ {A = ℕ} 2 (arguments_status (error_kind c.args.refused.now)) = search rules in
    let line : fault_line (codes "Arguments") ≡ arguments_line (error_kind c.args.refused.now) = search rules in
    record {
      status = status;
      told = subst (Puts (g.F.Output.shown c.args.fault.now) (g.F.Output.shown c.tell_word.new.fault)) line c.tell_word.ensures;
    }
