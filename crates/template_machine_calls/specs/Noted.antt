-- What is noted that is to be made of a value.
use Rattle.std.specs.Prelude.{List, [], ◌∷◌, Option, None, Some}
use Rattle.template_machine_meaning.specs.Turnings as meanings
use Rattle.template_machine_calls.specs.Left.{turning_in}
use Rattle.template_machine_calls.specs.declared.reached.Turning.{Turning}

abbrev pub turnings_or_none : Option Turning → List meanings.Turning
turnings_or_none None = []
turnings_or_none (Some t) = turning_in t ∷ []
