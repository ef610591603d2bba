-- What contracts see of further locals.
use Rattle.std.specs.Prelude.{ℕ, List, [], Option, None, Some}
use Rattle.std.specs.Global.{Box}
use Rattle.template_values_model.specs.Val.{Val}

-- those in the box, or none where there is none
abbrev pub locals_in : Option (Box (List (List ℕ × Val))) → List (List ℕ × Val)
locals_in None = []
locals_in (Some box) = box.value
