-- The data of JSON each of whose numbers is whole, beside the value of that JSON.
use Rattle.std.proofs.Common.{◌≡◌, ℕ, ℤ, List, [], ◌∷◌, Bool, true, false, ◌||◌, Option, Some, None, option_map, option_and_then, Ordering, Less, Equal, Greater, refl, sym, ap, ap₂, ◌∙◌, unwrap_or}
use Rattle.std.specs.Cmp.Lexicographic.{slice_cmp}
use Rattle.std.specs.Ordering.{nat_cmp, match_ordering, ordering_then}
use Rattle.std.specs.BTreeMap.{insert_entry}
use Rattle.json.specs.Json as json
use Rattle.serde_json.specs.Data.{Num, unsigned, negative, float, Data, null, boolean, number, string, array, object, Items, no_items, item, Members, no_members, member, put}
use Rattle.serde_json.specs.Find.{as_integer, is_float}
use Rattle.serde_json.specs.Read.{number_of, of_json, of_items, of_members}
use Rattle.serde_json.specs.Written.{has_float, items_have_float, members_have_float}
use Rattle.template_values_model.specs.Val.{Val, Vals, undefined, int, text, list, map, vals_more}
use Rattle.template_values_core.specs.Maps.{collected, pairs_of, put_all}
use Rattle.template_values_core.specs.Order.{val_cmp}
use Rattle.template_values_core.specs.Shape.{pairs_in}
use Rattle.template_values_core.specs.declared.value.Entry.{Entry}
use Rattle.template_values_core.proofs.Sorting.{collected-rising, rising-put_all}
use Rattle.template_values_json.specs.Json.{value_of, values_of, named_values}
use Rattle.template_values_json.specs.Whole.{whole_pairs, whole_value, whole_values}
use Rattle.template_values_json.proofs.Turns.{same_some}

pub map_some : {A B : Type 0} (f : A → B) (o : Option A) (b : B) → option_map f o ≡ Some b → (a : A) × (o ≡ Some a) × (f a ≡ b)
map_some f None b e = absurd (cc)
map_some f (Some a) b e = (a, refl, same_some _ _ e)

pub then_some : {A B : Type 0} (f : A → Option B) (o : Option A) (b : B) → option_and_then f o ≡ Some b → (a : A) × (o ≡ Some a) × (f a ≡ Some b)
then_some f None b e = absurd (cc)
then_some f (Some a) b e = (a, refl, e)

-- ---- pairs that were put are not changed where they are put again

abbrev as_entries : List (Val × Val) → List Entry
as_entries [] = []
as_entries (p ∷ ps) = record { key = p.0; value = p.1 } ∷ as_entries ps

pairs_in-as_entries : (ps : List (Val × Val)) → pairs_in (as_entries ps) ≡ ps
pairs_in-as_entries [] = refl
pairs_in-as_entries (p ∷ ps) = ap (λ (more : List (Val × Val)). p ∷ more) (pairs_in-as_entries ps)

pub put_twice : (ps : List (Val × Val)) → put_all [] (put_all [] ps) ≡ put_all [] ps
put_twice ps =
    let is : pairs_in (as_entries (put_all [] ps)) ≡ put_all [] ps = pairs_in-as_entries (put_all [] ps) in
    ap (put_all []) (sym is) ∙ collected-rising (as_entries (put_all [] ps)) (rising-put_all (as_entries (put_all [] ps)) ps is) ∙ is

-- ---- a member that is put

named_put_by : (o : Ordering) (k l : List ℕ) (d e : Data) (ms : Members) (later : List (Val × Val)) → named_values (put k d ms) ≡ later
    → named_values (match_ordering o (member k d (member l e ms)) (member l d ms) (member l e (put k d ms)))
    ≡ match_ordering (ordering_then o Equal) ((text k, value_of d) ∷ (text l, value_of e) ∷ named_values ms) ((text l, value_of d) ∷ named_values ms) ((text l, value_of e) ∷ later)
named_put_by Less k l d e ms later h = refl
named_put_by Equal k l d e ms later h = refl
named_put_by Greater k l d e ms later h = ap (λ (more : List (Val × Val)). (text l, value_of e) ∷ more) h

named_put : (k : List ℕ) (d : Data) (ms : Members) → named_values (put k d ms) ≡ insert_entry val_cmp (named_values ms) (text k) (value_of d)
named_put k d no_members = refl
named_put k d (member l e ms) = named_put_by (slice_cmp nat_cmp k l) k l d e ms _ (named_put k d ms)

neither : (a b : Bool) → (a || b) ≡ false → (a ≡ false) × (b ≡ false)
neither true b e = absurd (cc)
neither false b e = (refl, e)

whole_put_by : (o : Ordering) (k l : List ℕ) (d e : Data) (ms : Members) → has_float d ≡ false → has_float e ≡ false → members_have_float ms ≡ false → members_have_float (put k d ms) ≡ false
    → members_have_float (match_ordering o (member k d (member l e ms)) (member l d ms) (member l e (put k d ms))) ≡ false
whole_put_by Less k l d e ms one two more h = rw (one, two, more) refl
whole_put_by Equal k l d e ms one two more h = rw (one, more) refl
whole_put_by Greater k l d e ms one two more h = rw (two, h) refl

whole_put : (k : List ℕ) (d : Data) (ms : Members) → has_float d ≡ false → members_have_float ms ≡ false → members_have_float (put k d ms) ≡ false
whole_put k d no_members one more = rw one refl
whole_put k d (member l e ms) one more =
    let both = neither (has_float e) (members_have_float ms) more in
    whole_put_by (slice_cmp nat_cmp k l) k l d e ms one both.0 both.1 (whole_put k d ms one both.1)

-- ---- the data

no_float : (n : Num) (z : ℤ) → as_integer n ≡ Some z → is_float n ≡ false
no_float (unsigned n) z e = refl
no_float (negative n) z e = refl
no_float (float x) z e = absurd (cc)

mutual
  pub value_read : (j : json.Json) (v : Val) → whole_value j ≡ Some v → (d : Data) × (of_json j ≡ Some d) × (value_of d ≡ v) × (has_float d ≡ false)
  value_read json.null v e = (null, refl, same_some _ _ e, refl)
  value_read (json.boolean b) v e = (boolean b, refl, same_some _ _ e, refl)
  value_read (json.number s) v e =
      let z = map_some int (option_and_then as_integer (number_of s)) v e in
      let n = then_some as_integer (number_of s) z.0 z.1 in
      (number n.0, ap (option_map number) n.1, ap (λ (o : Option ℤ). unwrap_or (option_map int o) undefined) n.2 ∙ z.2, no_float n.0 z.0 n.2)
  value_read (json.string s) v e = (string s, refl, same_some _ _ e, refl)
  value_read (json.array js) v e =
      let vs = map_some list (whole_values js) v e in
      let ds = values_read js vs.0 vs.1 in
      (array ds.0, ap (option_map array) ds.1, ap list ds.2 ∙ vs.2, ds.3)
  value_read (json.object ms) v e =
      let ps = map_some (λ ps. map (collected ps)) (whole_pairs ms) v e in
      let all = pairs_read ms ps.0 no_members ps.1 refl in
      (object all.0, ap (option_map object) all.1, ap (λ (qs : List (Val × Val)). map (pairs_of qs)) (ap (put_all []) all.2 ∙ put_twice ps.0) ∙ ps.2, all.3)

  pub values_read : (js : json.Items) (vs : Vals) → whole_values js ≡ Some vs → (ds : Items) × (of_items js ≡ Some ds) × (values_of ds ≡ vs) × (items_have_float ds ≡ false)
  values_read json.no_items vs e = (no_items, refl, same_some _ _ e, refl)
  values_read (json.item j js) vs e =
      let v = then_some _ (whole_value j) vs e in
      let more = map_some (vals_more v.0) (whole_values js) vs v.2 in
      let d = value_read j v.0 v.1 in
      let ds = values_read js more.0 more.1 in
      (item d.0 ds.0, rw (d.1, ds.1) refl, ap₂ vals_more d.2 ds.2 ∙ more.2, rw (d.3, ds.3) refl)

  -- the members that were found before stand too
  pub pairs_read : (ms : json.Members) (ps : List (Val × Val)) (found : Members) → whole_pairs ms ≡ Some ps → members_have_float found ≡ false
      → (all : Members) × (of_members ms found ≡ Some all) × (named_values all ≡ put_all (named_values found) ps) × (members_have_float all ≡ false)
  pairs_read json.no_members ps found e whole = (found, refl, ap (put_all (named_values found)) (same_some _ _ e), whole)
  pairs_read (json.member k j ms) ps found e whole =
      let v = then_some _ (whole_value j) ps e in
      let more = map_some (λ (later : List (Val × Val)). (text k, v.0) ∷ later) (whole_pairs ms) ps v.2 in
      let d = value_read j v.0 v.1 in
      let all = pairs_read ms more.0 (put k d.0 found) more.1 (whole_put k d.0 found d.3 whole) in
      let here : named_values (put k d.0 found) ≡ insert_entry val_cmp (named_values found) (text k) v.0 = named_put k d.0 found ∙ ap (insert_entry val_cmp (named_values found) (text k)) d.2 in
      (all.0, rw d.1 all.1, all.2 ∙ ap (λ (kept : List (Val × Val)). put_all kept more.0) here ∙ ap (put_all (named_values found)) more.2, all.3)
