-- The grammar's loops, a turn at a time, under the values of what is read.
use Rattle.std.proofs.Common.{◌≡◌, ℕ, ◌-◌, ◌<◌, ◌≤◌, List, [], ◌∷◌, ◌++◌, length, Option, Some, None, option_map, option_and_then, refl, ap, ◌∙◌, arith}
use Rattle.json.specs.Token.{Token}
use Rattle.json.specs.Json as json
use Rattle.json.specs.Json.{Parse, parse_map, after_end_array, read_key, items, members, value, if_last}
use Rattle.json.specs.Lex.{tokens}
use Rattle.json.proofs.Grammar.{items_end, items_more, members_end, members_more, value_is, value-begin_array, value-begin_object}
use Rattle.serde_json.specs.Read.{converted}
use Rattle.template_values_model.specs.Val.{Val, Vals, text, list, map, no_vals, vals_more, vals_of}
use Rattle.template_values_core.specs.Maps.{collected}
use Rattle.template_values_json.specs.Whole.{leaf_of, object_pairs, pairs_of_text, whole_pairs, whole_value, whole_values}

pub same_some : {A : Type 0} (a b : A) → Some a ≡ Some b → a ≡ b
same_some a b e = cc

found : {B : Type 0} (r t : List Token) (o : Option B) (b : B) → option_map {U = B × List Token} (λ y. (y, r)) o ≡ Some (b, t) → (r ≡ t) × (o ≡ Some b)
found r t None b e = absurd (cc)
found r t (Some y) b e = let same = same_some _ _ e in (ap (λ q. q.1) same, ap (λ q. Some q.0) same)

-- what was read under f is f of what was read
pub converted_some : {A B : Type 0} (f : A → Option B) (o : Option (A × List Token)) (b : B) (r : List Token) → converted f o ≡ Some (b, r) → (a : A) × (o ≡ Some (a, r)) × (f a ≡ Some b)
converted_some f None b r e = absurd (cc)
converted_some f (Some p) b r e = let both = found p.1 r (f p.0) b e in (p.0, ap (λ t. Some (p.0, t)) both.0, both.1)

twice : {A B : Type 0} (g : A → B) (r : List Token) (x : Option A) → option_map (λ b. (b, r)) (option_map g x) ≡ parse_map g (option_map (λ a. (a, r)) x)
twice g r None = refl
twice g r (Some a) = refl

list_under : (o : Option (json.Items × List Token)) → converted whole_value (parse_map json.array o) ≡ parse_map list (converted whole_values o)
list_under None = refl
list_under (Some p) = twice list p.1 (whole_values p.0)

map_under : (o : Option (json.Members × List Token)) → converted whole_value (parse_map json.object o) ≡ parse_map (λ ps. map (collected ps)) (converted whole_pairs o)
map_under None = refl
map_under (Some p) = twice (λ ps. map (collected ps)) p.1 (whole_pairs p.0)

-- a list and a map, behind what opens them
pub list_read : (depth : ℕ) (ts r : List Token) (vs : Vals) → 0 < depth → converted whole_values (items (value (depth - 1)) (length ts) ts) ≡ Some (vs, r)
    → converted whole_value (value depth (Token.begin_array ∷ ts)) ≡ Some (list vs, r)
list_read depth ts r vs some e = ap (converted whole_value) (value-begin_array depth ts some) ∙ list_under (items (value (depth - 1)) (length ts) ts) ∙ ap (parse_map list) e

pub map_read : (depth : ℕ) (ts r : List Token) (ps : List (Val × Val)) → 0 < depth → converted whole_pairs (members (value (depth - 1)) (length ts) ts) ≡ Some (ps, r)
    → converted whole_value (value depth (Token.begin_object ∷ ts)) ≡ Some (map (collected ps), r)
map_read depth ts r ps some e = ap (converted whole_value) (value-begin_object depth ts some) ∙ map_under (members (value (depth - 1)) (length ts) ts) ∙ ap (parse_map (λ ps. map (collected ps))) e

-- a value that opens nothing
pub leaf_read : (depth : ℕ) (t : Token) (r : List Token) (v : Val) → leaf_of t ≡ Some v → converted whole_value (value depth (t ∷ r)) ≡ Some (v, r)
leaf_read depth Token.begin_object r v e = absurd (cc)
leaf_read depth Token.end_object r v e = absurd (cc)
leaf_read depth Token.begin_array r v e = absurd (cc)
leaf_read depth Token.end_array r v e = absurd (cc)
leaf_read depth (Token.key s) r v e = absurd (cc)
leaf_read depth (Token.string s) r v e = ap (converted whole_value) (value_is depth _) ∙ ap (option_map (λ b. (b, r))) e
leaf_read depth (Token.number s) r v e = ap (converted whole_value) (value_is depth _) ∙ ap (option_map (λ b. (b, r))) e
leaf_read depth (Token.boolean b) r v e = ap (converted whole_value) (value_is depth _) ∙ ap (option_map (λ b. (b, r))) e
leaf_read depth Token.null r v e = ap (converted whole_value) (value_is depth _) ∙ ap (option_map (λ b. (b, r))) e
leaf_read depth Token.bad r v e = absurd (cc)

with_item : (j : json.Json) (v : Val) → whole_value j ≡ Some v → (o : Option (json.Items × List Token)) → converted whole_values (parse_map (json.item j) o) ≡ parse_map (vals_more v) (converted whole_values o)
with_item j v e None = refl
with_item j v e (Some p) = rw e (twice (vals_more v) p.1 (whole_values p.0))

with_member : (k : List ℕ) (j : json.Json) (v : Val) → whole_value j ≡ Some v → (o : Option (json.Members × List Token))
    → converted whole_pairs (parse_map (json.member k j) o) ≡ parse_map (λ ps. (text k, v) ∷ ps) (converted whole_pairs o)
with_member k j v e None = refl
with_member k j v e (Some p) = rw e (twice (λ ps. (text k, v) ∷ ps) p.1 (whole_pairs p.0))

module _ (p : Parse json.Json) where
  pub item_read : (n : ℕ) (ts r : List Token) (v : Val) → 0 < n → after_end_array ts ≡ None → converted whole_value (p ts) ≡ Some (v, r)
      → converted whole_values (items p n ts) ≡ parse_map (vals_more v) (converted whole_values (items p (n - 1) r))
  item_read n ts r v some going e = let j = converted_some whole_value (p ts) v r e in ap (converted whole_values) (items_more p n ts r j.0 some going j.1) ∙ with_item j.0 v j.2 _

  pub items_over : (n : ℕ) (ts r : List Token) → length ts ≤ n → after_end_array ts ≡ Some r → converted whole_values (items p n ts) ≡ Some (no_vals, r)
  items_over n ts r enough e = ap (converted whole_values) (items_end p n ts r enough e)

  pub member_read : (n : ℕ) (k : List ℕ) (ts s r : List Token) (v : Val) → 0 < n → read_key ts ≡ Some (Some k, s) → converted whole_value (p s) ≡ Some (v, r)
      → converted whole_pairs (members p n ts) ≡ parse_map (λ ps. (text k, v) ∷ ps) (converted whole_pairs (members p (n - 1) r))
  member_read n k ts s r v some key e = let j = converted_some whole_value (p s) v r e in ap (converted whole_pairs) (members_more p n k ts s r j.0 some key j.1) ∙ with_member k j.0 v j.2 _

  pub members_over : (n : ℕ) (ts r : List Token) → length ts ≤ n → read_key ts ≡ Some (None, r) → converted whole_pairs (members p n ts) ≡ Some ([], r)
  members_over n ts r enough e = ap (converted whole_pairs) (members_end p n ts r enough e)

-- ---- lists that grow at their end

abbrev pub vals_before : List Val → Vals → Vals
vals_before [] later = later
vals_before (v ∷ vs) later = vals_more v (vals_before vs later)

pub vals_before-none : (vs : List Val) → vals_before vs no_vals ≡ vals_of vs
vals_before-none [] = refl
vals_before-none (v ∷ vs) = ap (vals_more v) (vals_before-none vs)

vals_push : (vs : List Val) (v : Val) (later : Vals) → vals_before vs (vals_more v later) ≡ vals_before (vs ++ v ∷ []) later
vals_push [] v later = refl
vals_push (w ∷ vs) v later = ap (vals_more w) (vals_push vs v later)

pub one_more_value : (vs : List Val) (v : Val) (o : Option (Vals × List Token)) → parse_map (vals_before vs) (parse_map (vals_more v) o) ≡ parse_map (vals_before (vs ++ v ∷ [])) o
one_more_value vs v None = refl
one_more_value vs v (Some p) = ap (λ later. Some (later, p.1)) (vals_push vs v p.0)

pairs_push : (ps : List (Val × Val)) (p : Val × Val) (later : List (Val × Val)) → ps ++ p ∷ later ≡ (ps ++ p ∷ []) ++ later
pairs_push [] p later = refl
pairs_push (q ∷ ps) p later = ap (λ (more : List (Val × Val)). q ∷ more) (pairs_push ps p later)

pub one_more_pair : (ps : List (Val × Val)) (p : Val × Val) (o : Option (List (Val × Val) × List Token))
    → parse_map (λ later. ps ++ later) (parse_map (λ later. p ∷ later) o) ≡ parse_map (λ later. (ps ++ p ∷ []) ++ later) o
one_more_pair ps p None = refl
one_more_pair ps p (Some q) = ap (λ later. Some (later, q.1)) (pairs_push ps p q.0)

pub none_before : {A : Type 0} (o : Option (A × List Token)) → o ≡ parse_map (λ a. a) o
none_before None = refl
none_before (Some p) = refl

-- ---- the whole text

pub object_read : (s : List ℕ) (ts : List Token) (ps : List (Val × Val)) → tokens s ≡ Token.begin_object ∷ ts → converted whole_pairs (members (value 126) (length ts) ts) ≡ Some (ps, []) → pairs_of_text s ≡ Some ps
object_read s ts ps is e =
    let ms = converted_some whole_pairs (members (value 126) (length ts) ts) ps [] e in
    let read : value 127 (tokens s) ≡ Some (json.object ms.0, []) = ap (value 127) is ∙ value-begin_object 127 ts (omega arith) ∙ ap (parse_map json.object) ms.1 in
    ap (λ o. option_and_then object_pairs (option_and_then (λ p. if_last p.0 p.1) o)) read ∙ ms.2
