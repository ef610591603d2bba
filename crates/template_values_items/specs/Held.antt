-- What is kept of a value that is gone over, unpacked or chosen from: the values in it, in order.
use Rattle.std.specs.Prelude.{List, [], ◌∷◌}
use Rattle.template_values_model.specs.Val.{Val}
use Rattle.template_values_items.specs.Shared.{items_shared}
use Rattle.template_values_items.specs.declared.ordered.Held.{Held}
use Rattle.template_values_items.specs.declared.ordered.Held.TheVariants.{One, Items as ItemsOf, Made}

abbrev pub values_held : Held → List Val
values_held (One v) = v ∷ []
values_held (ItemsOf v) = items_shared v
values_held (Made vs) = vs.items
