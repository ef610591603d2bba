use Rattle.std.proofs.Common.{Err, ap, inl, inr}
use Rattle.template_program_run.proofs.placing.perform_into.Goals as goal

pub returns-in-Ok : goal.returns-in-Ok
returns-in-Ok g c = inl c.in-Ok.ensures.written

pub returns-in-Err : goal.returns-in-Err
returns-in-Err g c =
    inr (
      c.in-Err.refused,
      g.F.Output.shown c.write_file.new.fault,
      c.in-Err.ensures.refused,
      λ is. c.in-Err.ensures.file (ap Err is),
      c.refuse_file.ensures.status,
      c.refuse_file.ensures.told,
    )
