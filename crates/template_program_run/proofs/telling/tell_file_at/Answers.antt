use Rattle.std.proofs.Common.{subst, sym}
use Rattle.template_program_parts.specs.declared.faults.FileFault.{FileFault}
use Rattle.template_program_places.specs.Told.{PutsBefore}
use Rattle.template_program_run.specs.Starts.{file_line}
use Rattle.template_program_run.proofs.telling.tell_file_at.Goals as goal

pub returns-in-File : goal.returns-in-File
returns-in-File g c =
    subst (λ (refused : FileFault). PutsBefore (g.F.Output.shown c.args.fault.now) (g.F.Output.shown c.write_placed_word.new.out) (file_line refused))
    (sym c.in-File.is) c.write_placed_word.ensures
