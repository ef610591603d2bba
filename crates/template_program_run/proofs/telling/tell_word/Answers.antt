use Rattle.template_program_run.proofs.telling.tell_word.Goals as goal

pub returns : goal.returns
returns g c = (c.write_fault.result, c.write_fault.ensures)
