-- The value of JSON whose numbers are kept as they are spelled.
use Rattle.std.specs.Prelude.{ℕ, List, [], ◌∷◌, option_map, unwrap_or}
use Rattle.json.specs.Json.{Json, null, boolean, number, string, array, object, Items, no_items, item, Members, no_members, member}
use Rattle.template_values_model.specs.Val.{Val, Vals, none, truth, int, text, list, map, no_vals, vals_more}
use Rattle.template_values_core.specs.Maps.{collected}
pub use Rattle.template_values_json.specs.Whole.{whole_in}

-- another number is the text that spells it
unfoldable pub number_value : List ℕ → Val
number_value s = unwrap_or (option_map int (whole_in s)) (text s)

-- an array is a list, an object a map whose keys are its names as plain texts
abbrev mutual
  pub spelled_value : Json → Val
  spelled_value null = none
  spelled_value (boolean b) = truth b
  spelled_value (number s) = number_value s
  spelled_value (string s) = text s
  spelled_value (array items) = list (spelled_values items)
  spelled_value (object inner) = map (collected (spelled_pairs inner))

  pub spelled_values : Items → Vals
  spelled_values no_items = no_vals
  spelled_values (item j later) = vals_more (spelled_value j) (spelled_values later)

  pub spelled_pairs : Members → List (Val × Val)
  spelled_pairs no_members = []
  spelled_pairs (member name j later) = (text name, spelled_value j) ∷ spelled_pairs later
