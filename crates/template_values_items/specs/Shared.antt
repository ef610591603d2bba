-- What is shared with the values that have it.
use Rattle.std.specs.Prelude.{List, [], unwrap_or}
use Rattle.template_values_model.specs.Val.{Val}
use Rattle.template_values_core.specs.Reads.{items_in}

-- the items of a list or tuple; none of other values
abbrev pub items_shared : Val → List Val
items_shared v = unwrap_or (items_in v) []
