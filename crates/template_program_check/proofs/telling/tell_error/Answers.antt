use Rattle.template_program_check.proofs.telling.tell_error.Goals as goal

pub returns : goal.returns
returns g c = (c.write_error.result, c.write_error.ensures)
