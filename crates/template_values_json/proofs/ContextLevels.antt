-- A value nests no deeper than the JSON that it is of.
use Rattle.std.proofs.Common.{◌≡◌, ◌≤◌, ◌<◌, ℕ, List, [], Option, None, Some, Result, Ok, Err, IfErr, inl, inr, Vec, Global, ap, arith, option_map, unwrap_or}
use Rattle.std.specs.Borrow.{Bor}
use Rattle.json.specs.Json.{Json, null, boolean, number, string, array, object, Items, no_items, item, Members, no_members, member}
use Rattle.json.specs.Tree.{depth as nesting, items_depth, members_depth}
use Rattle.json.specs.Value.{items_view, members_view, value_view}
use Rattle.json.specs.declared.value.Value.{Value, Array, Object}
use Rattle.json.proofs.Trees.{view-Array, view-Object}
use Rattle.template_values_errors.specs.declared.ErrorKind.{ErrorKind}
use Rattle.template_values_errors.specs.Memory.{NoMemory}
use Rattle.template_values_model.specs.Val.{Val, int, text}
use Rattle.template_values_core.specs.Answers.{TooDeep}
use Rattle.template_values_core.specs.Depth.{depth, vals_depth, pairs_depth}
use Rattle.template_values_core.specs.Maps.{pairs_of}
use Rattle.template_values_json.proofs.Levels.{put_within}
use Rattle.template_values_json.specs.Spelled.{number_value, spelled_value, spelled_values, spelled_pairs, whole_in}

number_by : (s : List ℕ) (n : Option _) → depth (unwrap_or (option_map int n) (text s)) ≤ 0
number_by s None = omega arith
number_by s (Some n) = omega arith

depth-number_value : (s : List ℕ) → depth (number_value s) ≤ 0
unfolding number_value
depth-number_value s = number_by s (whole_in s)

mutual
  pub depth-spelled_value : (j : Json) → depth (spelled_value j) ≤ nesting j
  depth-spelled_value null = omega arith
  depth-spelled_value (boolean b) = omega arith
  depth-spelled_value (number s) = depth-number_value s
  depth-spelled_value (string s) = omega arith
  depth-spelled_value (array items) = omega (arith, vals_depth-spelled_values items)
  depth-spelled_value (object members) = omega (arith, put_within [] (spelled_pairs members), pairs_depth-spelled_pairs members)

  pub vals_depth-spelled_values : (js : Items) → vals_depth (spelled_values js) ≤ items_depth js
  vals_depth-spelled_values no_items = omega arith
  vals_depth-spelled_values (item j js) = omega (arith, depth-spelled_value j, vals_depth-spelled_values js)

  pub pairs_depth-spelled_pairs : (ms : Members) → pairs_depth (pairs_of (spelled_pairs ms)) ≤ members_depth ms
  pairs_depth-spelled_pairs no_members = omega arith
  pairs_depth-spelled_pairs (member name j ms) = omega (arith, depth-spelled_value j, pairs_depth-spelled_pairs ms)

-- a value that nests within the bound is never too deep
pub never_deep : (v : Val) (made : Result Val (List ErrorKind)) → depth v ≤ 500 → IfErr made (TooDeep v) → IfErr made NoMemory
never_deep v (Ok w) within refused = tt
never_deep v (Err kinds) within refused = elim refused [
  | inl memory ↦ memory
  | inr deep ↦ absurd (omega (arith, deep.1, within))
]

-- what JSON holds nests less than it
pub items_within : (json : Value Global) (items : Vec (Value Global) Global) (n : ℕ) → json ≡ Array items → nesting (value_view json) ≤ n → items_depth (items_view items.items) < n
items_within json items n is h = omega (arith, h, ap (λ j. nesting (value_view j)) is, ap nesting (view-Array items))

pub members_within : (json : Value Global) (members : Vec (Bor (List ℕ) × Value Global) Global) (n : ℕ) → json ≡ Object members → nesting (value_view json) ≤ n → members_depth (members_view members.items) < n
members_within json members n is h = omega (arith, h, ap (λ j. nesting (value_view j)) is, ap nesting (view-Object members))
