use Rattle.std.proofs.Common.{List, subst}
use Rattle.template_values_errors.specs.declared.ErrorKind.{ErrorKind}
use Rattle.template_program_output.specs.Lines.{error_line}
use Rattle.template_program_places.specs.Told.{PutsBefore}
use Rattle.template_program_run.proofs.telling.tell_memory_first.Goals as goal

pub returns : goal.returns
returns g c = subst (λ (kinds : List ErrorKind). PutsBefore (g.F.Output.shown c.args.fault.now) (g.F.Output.shown c.write_placed-2.new.out) (error_line kinds))
    c.new.ensures c.write_placed-2.ensures
