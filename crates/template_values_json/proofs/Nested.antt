-- A value nests no deeper than the JSON that it is of, each of whose numbers is whole.
use Rattle.std.proofs.Common.{◌≡◌, ◌≤◌, ◌<◌, ℕ, List, [], ◌∷◌, Some, ap, sym, ◌∙◌, arith}
use Rattle.json.specs.Json as json
use Rattle.json.specs.Tree.{depth as nesting, items_depth, members_depth}
use Rattle.template_values_model.specs.Val.{Val, Vals, int, text, list, map, vals_more}
use Rattle.template_values_core.specs.Depth.{depth, vals_depth, pairs_depth}
use Rattle.template_values_core.specs.Maps.{collected, pairs_of}
use Rattle.template_values_core.specs.Shape.{pairs_in}
use Rattle.template_values_core.specs.declared.value.Entry.{Entry}
use Rattle.template_values_json.specs.Entries.{ArePlain}
use Rattle.template_values_json.specs.Whole.{whole_in, whole_pairs, whole_value, whole_values}
use Rattle.template_values_json.proofs.Levels.{put_within}
use Rattle.template_values_json.proofs.Plain.{same_later, same_pair}
use Rattle.template_values_json.proofs.Turns.{same_some}
use Rattle.template_values_json.proofs.Whole.{map_some, then_some}

mutual
  depth-whole_value : (j : json.Json) (v : Val) → whole_value j ≡ Some v → depth v ≤ nesting j
  depth-whole_value json.null v e = omega (arith, ap depth (same_some _ _ e))
  depth-whole_value (json.boolean b) v e = omega (arith, ap depth (same_some _ _ e))
  depth-whole_value (json.number s) v e = let z = map_some int (whole_in s) v e in omega (arith, ap depth z.2)
  depth-whole_value (json.string s) v e = omega (arith, ap depth (same_some _ _ e))
  depth-whole_value (json.array js) v e =
      let vs = map_some list (whole_values js) v e in
      omega (arith, ap depth vs.2, vals_depth-whole_values js vs.0 vs.1)
  depth-whole_value (json.object ms) v e =
      let ps = map_some (λ ps. map (collected ps)) (whole_pairs ms) v e in
      omega (arith, ap depth ps.2, put_within [] ps.0, pairs_depth-whole_pairs ms ps.0 ps.1)

  vals_depth-whole_values : (js : json.Items) (vs : Vals) → whole_values js ≡ Some vs → vals_depth vs ≤ items_depth js
  vals_depth-whole_values json.no_items vs e = omega (arith, ap vals_depth (same_some _ _ e))
  vals_depth-whole_values (json.item j js) vs e =
      let v = then_some _ (whole_value j) vs e in
      let more = map_some (vals_more v.0) (whole_values js) vs v.2 in
      omega (arith, ap vals_depth more.2, depth-whole_value j v.0 v.1, vals_depth-whole_values js more.0 more.1)

  pairs_depth-whole_pairs : (ms : json.Members) (ps : List (Val × Val)) → whole_pairs ms ≡ Some ps → pairs_depth (pairs_of ps) ≤ members_depth ms
  pairs_depth-whole_pairs json.no_members ps e = omega (arith, ap (λ (qs : List (Val × Val)). pairs_depth (pairs_of qs)) (same_some _ _ e))
  pairs_depth-whole_pairs (json.member k j ms) ps e =
      let v = then_some _ (whole_value j) ps e in
      let more = map_some (λ (later : List (Val × Val)). (text k, v.0) ∷ later) (whole_pairs ms) ps v.2 in
      omega (arith, ap (λ (qs : List (Val × Val)). pairs_depth (pairs_of qs)) more.2, depth-whole_value j v.0 v.1, pairs_depth-whole_pairs ms more.0 more.1)

-- entries of the members
pub plain_read : (ms : json.Members) (ps : List (Val × Val)) (es : List Entry) → whole_pairs ms ≡ Some ps → pairs_in es ≡ ps → members_depth ms < 500 → ArePlain es
plain_read ms ps [] e are shallow = tt
plain_read json.no_members ps (x ∷ es) e are shallow = let nil : [] ≡ ps = same_some _ _ e in absurd (cc)
plain_read (json.member k j ms) ps (x ∷ es) e are shallow =
    let v = then_some _ (whole_value j) ps e in
    let more = map_some (λ (later : List (Val × Val)). (text k, v.0) ∷ later) (whole_pairs ms) ps v.2 in
    let pair : (x.key, x.value) ≡ (text k, v.0) = same_pair _ _ _ _ (are ∙ sym more.2) in (
      (k, ap (λ (p : Val × Val). p.0) pair),
      omega (arith, ap (λ (p : Val × Val). depth p.1) pair, depth-whole_value j v.0 v.1),
      plain_read ms more.0 es more.1 (same_later _ _ _ _ (are ∙ sym more.2)) (omega arith),
    )
