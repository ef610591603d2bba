use Rattle.template_program_places.specs.Told.{place_line}
use Rattle.template_program_places.proofs.telling.write_placed_word.Goals as goal

pub returns : goal.returns
returns g c = (place_line c.args.place.now, (c.write_word_and.result, c.write_word_and.ensures))
