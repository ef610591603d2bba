-- Of the names so far the places are kept.
use Rattle.template_program_reached.specs.Places.{TellPlaces}
use Rattle.template_program_reached.specs.Views.{texts_in}
use Rattle.template_program_reached.proofs.places.places_of.Given as goal

abbrev pub invariant-loop-place : goal.invariant-loop-place
invariant-loop-place l = TellPlaces l.places (texts_in l.templates) l.place
