-- Entries whose keys are plain texts and whose values leave a level for a map of them.
use Rattle.std.proofs.Common.{◌≡◌, ◌≤◌, ◌<◌, List, [], ◌∷◌, ◌++◌, ap, arith}
use Rattle.std.proofs.lemmas.Map.Views.{All-keys-insert_entry}
use Rattle.std.specs.List.{All}
use Rattle.std.specs.Map.{keys_of}
use Rattle.std.specs.BTreeMap.{insert_entry}
use Rattle.serde_json.specs.Data.{Members, no_members, member, members_depth}
use Rattle.template_values_model.specs.Val.{Val, text, map}
use Rattle.template_values_core.specs.Depth.{depth, pairs_depth}
use Rattle.template_values_core.specs.Maps.{pairs_of, put_all, collected}
use Rattle.template_values_core.specs.Order.{val_cmp}
use Rattle.template_values_core.specs.Shape.{pairs_in}
use Rattle.template_values_core.specs.declared.value.Entry.{Entry}
use Rattle.template_values_json.specs.Json.{value_of, named_values}
use Rattle.template_values_json.specs.Entries.{IsPlainText}
use Rattle.template_values_json.specs.Entries.{ArePlain}
use Rattle.template_values_json.proofs.Levels.{depth-value_of, put_within}

pub plain_push : (es : List Entry) (e : Entry) → IsPlainText e.key → depth e.value < 500 → ArePlain es → ArePlain (es ++ e ∷ [])
plain_push [] e key value h = (key, value, tt)
plain_push (first ∷ es) e key value h = (h.0, h.1, plain_push es e key value h.2)

pub same_pair : (p q : Val × Val) (ps qs : List (Val × Val)) → p ∷ ps ≡ q ∷ qs → p ≡ q
same_pair p q ps qs are = cc

pub same_later : (p q : Val × Val) (ps qs : List (Val × Val)) → p ∷ ps ≡ q ∷ qs → ps ≡ qs
same_later p q ps qs are = cc

-- entries of members
pub plain_members : (ms : Members) (es : List Entry) → pairs_in es ≡ named_values ms → members_depth ms < 500 → ArePlain es
plain_members ms [] are shallow = tt
plain_members no_members (e ∷ es) are shallow = absurd (cc)
plain_members (member name d later) (e ∷ es) are shallow =
    let pair : (e.key, e.value) ≡ (text name, value_of d) = same_pair _ _ _ _ are in (
      (name, ap (λ (p : Val × Val). p.0) pair),
      omega (arith, ap (λ (p : Val × Val). depth p.1) pair, depth-value_of d),
      plain_members later es (same_later _ _ _ _ are) (omega arith),
    )

pairs_within : (es : List Entry) → ArePlain es → pairs_depth (pairs_of (pairs_in es)) < 500
pairs_within [] plain = omega arith
pairs_within (e ∷ es) plain = omega (arith, ap depth plain.0.1, plain.1, pairs_within es plain.2)

-- a map of such entries nests no deeper than a value may
pub map_within : (es : List Entry) → ArePlain es → depth (map (collected (pairs_in es))) ≤ 500
map_within es plain = omega (arith, put_within [] (pairs_in es), pairs_within es plain)

-- and its keys are plain texts
pub text_keys : (kept : List (Val × Val)) (es : List Entry) → All IsPlainText (keys_of kept) → ArePlain es → All IsPlainText (keys_of (put_all kept (pairs_in es)))
text_keys kept [] h plain = h
text_keys kept (e ∷ es) h plain =
    text_keys (insert_entry val_cmp kept e.key e.value) es (All-keys-insert_entry val_cmp e.key e.value IsPlainText kept h plain.0) plain.2
