use Rattle.template_program_places.proofs.telling.write_before.Goals as goal

pub returns : goal.returns
returns g c = (c.args.text.now, (c.write_error_and.result, c.write_error_and.ensures))
