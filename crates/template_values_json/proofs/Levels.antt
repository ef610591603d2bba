-- A value nests no deeper than the JSON that it is of.
use Rattle.std.proofs.Common.{◌≡◌, ◌≤◌, ◌<◌, ℕ, max, List, [], ◌∷◌, Ordering, Less, Equal, Greater, String, Vec, BTreeMap, Global, ap, arith}
use Rattle.std.specs.Ordering.{match_ordering}
use Rattle.std.specs.BTreeMap.{insert_entry}
use Rattle.serde_json.specs.Data.{unsigned, negative, float, Data, null, boolean, number, string, array, object, Items, no_items, item, Members, no_members, member, depth as nesting, items_depth, members_depth}
use Rattle.serde_json.specs.View.{view, items_view, members_view}
use Rattle.serde_json.specs.declared.value.Value.{Value, Array, Object}
use Rattle.serde_json.proofs.Views.{view-Array, view-Object}
use Rattle.template_values_model.specs.Val.{Val}
use Rattle.template_values_core.specs.Depth.{depth, vals_depth, pairs_depth}
use Rattle.template_values_core.specs.Maps.{pairs_of, put_all}
use Rattle.template_values_core.specs.Order.{val_cmp}
use Rattle.template_values_json.specs.Json.{value_of, values_of, named_values}

insert_at : (o : Ordering) (k v : Val) (p : Val × Val) (ps more : List (Val × Val)) → pairs_depth (pairs_of more) ≤ max (max (depth k) (depth v)) (pairs_depth (pairs_of ps))
    → pairs_depth (pairs_of (match_ordering o ((k, v) ∷ p ∷ ps) ((p.0, v) ∷ ps) (p ∷ more))) ≤ max (max (depth k) (depth v)) (pairs_depth (pairs_of (p ∷ ps)))
insert_at Less k v p ps more h = omega arith
insert_at Equal k v p ps more h = omega arith
insert_at Greater k v p ps more h = omega arith

insert_within : (ps : List (Val × Val)) (k v : Val) → pairs_depth (pairs_of (insert_entry val_cmp ps k v)) ≤ max (max (depth k) (depth v)) (pairs_depth (pairs_of ps))
insert_within [] k v = omega arith
insert_within (p ∷ ps) k v = insert_at (val_cmp k p.0) k v p ps (insert_entry val_cmp ps k v) (insert_within ps k v)

-- a map made from pairs nests no deeper than they do
pub put_within : (kept given : List (Val × Val)) → pairs_depth (pairs_of (put_all kept given)) ≤ max (pairs_depth (pairs_of kept)) (pairs_depth (pairs_of given))
put_within kept [] = omega arith
put_within kept (p ∷ given) = omega (arith, put_within (insert_entry val_cmp kept p.0 p.1) given, insert_within kept p.0 p.1)

mutual
  pub depth-value_of : (d : Data) → depth (value_of d) ≤ nesting d
  depth-value_of null = omega arith
  depth-value_of (boolean b) = omega arith
  depth-value_of (number (unsigned n)) = omega arith
  depth-value_of (number (negative z)) = omega arith
  depth-value_of (number (float x)) = omega arith
  depth-value_of (string s) = omega arith
  depth-value_of (array items) = omega (arith, vals_depth-values_of items)
  depth-value_of (object members) = omega (arith, put_within [] (named_values members), pairs_depth-named_values members)

  pub vals_depth-values_of : (ds : Items) → vals_depth (values_of ds) ≤ items_depth ds
  vals_depth-values_of no_items = omega arith
  vals_depth-values_of (item d ds) = omega (arith, depth-value_of d, vals_depth-values_of ds)

  pub pairs_depth-named_values : (ms : Members) → pairs_depth (pairs_of (named_values ms)) ≤ members_depth ms
  pairs_depth-named_values no_members = omega arith
  pairs_depth-named_values (member name d ms) = omega (arith, depth-value_of d, pairs_depth-named_values ms)

-- what JSON holds nests less than it
pub items_within : (json : Value) (items : Vec Value Global) (n : ℕ) → json ≡ Array items → nesting (view json) ≤ n → items_depth (items_view items.items) < n
items_within json items n is h = omega (arith, h, ap (λ j. nesting (view j)) is, ap nesting (view-Array items))

pub members_within : (json : Value) (members : BTreeMap (String Global) Value) (n : ℕ) → json ≡ Object members → nesting (view json) ≤ n → members_depth (members_view members.entries) < n
members_within json members n is h = omega (arith, h, ap (λ j. nesting (view j)) is, ap nesting (view-Object members))
