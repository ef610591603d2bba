use Rattle.template_program_places.specs.Told.{place_line}
use Rattle.template_program_places.proofs.refusal_telling.write_refused.Goals as goal

pub returns : goal.returns
returns g c = (place_line c.args.place.now, (c.write_error_and.result, c.write_error_and.ensures))
