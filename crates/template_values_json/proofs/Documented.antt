-- What a document says each of whose numbers is whole.
use Rattle.std.proofs.Common.{◌≡◌, ℕ, ◌<◌, List, [], ◌∷◌, Bool, false, Option, Some, None, option_map, option_and_then, Ordering, Less, Equal, Greater, IsUtf8, bytes_eq, is_eq, if◌then◌else◌, refl, sym, ap, ◌∙◌, arith}
use Rattle.std.proofs.lemmas.Cmp.{nat_list_cmp_total}
use Rattle.std.specs.Cmp.Lexicographic.{slice_cmp, texts_ties}
use Rattle.std.specs.Ordering.{nat_cmp, match_ordering, ordering_reverse}
use Rattle.json.specs.Token.{Token}
use Rattle.json.specs.Json as json
use Rattle.json.specs.Lex.{tokens}
use Rattle.json.specs.Tree.{depth as nesting, members_depth}
use Rattle.json.proofs.Nesting.{value-depth}
use Rattle.serde_json.specs.Data.{Data, object, Members, no_members, member}
use Rattle.serde_json.specs.Find.{get, get_member}
use Rattle.serde_json.specs.Read.{of_json, max_depth, read}
use Rattle.serde_json.specs.Written.{members_have_float}
use Rattle.template_values_model.specs.Val.{Val, map}
use Rattle.template_values_model.specs.Lookup.{entry_at}
use Rattle.template_values_core.specs.Maps.{collected, last_at, pairs_of, put_all}
use Rattle.template_values_core.specs.Shape.{pairs_in}
use Rattle.template_values_core.specs.declared.value.Entry.{Entry}
use Rattle.template_values_core.proofs.LastGiven.{entry_at-collected}
use Rattle.template_values_json.specs.Json.{data_in, fault_in, fault_of_data, value_of, named_values}
use Rattle.template_values_json.specs.Entries.{ArePlain, SayMembers}
use Rattle.template_values_json.specs.Whole.{object_pairs, pairs_of_text, whole_pairs}
use Rattle.template_values_json.proofs.Documents.{data_in_text}
use Rattle.template_values_json.proofs.Nested.{plain_read}
use Rattle.template_values_json.proofs.Whole.{pairs_read, put_twice, then_some}

-- ---- the first value under a name is the last one that was given

is_eq-ordering_reverse : (o : Ordering) → is_eq (ordering_reverse o) ≡ is_eq o
is_eq-ordering_reverse Less = refl
is_eq-ordering_reverse Equal = refl
is_eq-ordering_reverse Greater = refl

same_name : (name l : List ℕ) → bytes_eq l name ≡ is_eq (slice_cmp nat_cmp name l)
same_name name l = texts_ties l name ∙ sym (is_eq-ordering_reverse (slice_cmp nat_cmp l name)) ∙ sym (ap is_eq (nat_list_cmp_total.antisymm name l))

found_by : (o : Ordering) (d : Data) (later : Option Val) (rest : Option Data) → later ≡ option_map value_of rest
    → (if is_eq o then Some (value_of d) else later) ≡ option_map value_of (match_ordering o rest (Some d) rest)
found_by Less d later rest h = h
found_by Equal d later rest h = refl
found_by Greater d later rest h = h

entry_says : (name : List ℕ) (ms : Members) → entry_at name (pairs_of (named_values ms)) ≡ option_map value_of (get_member name ms)
entry_says name no_members = refl
entry_says name (member l d ms) =
    ap (λ (b : Bool). if b then Some (value_of d) else entry_at name (pairs_of (named_values ms))) (same_name name l)
    ∙ found_by (slice_cmp nat_cmp name l) d _ _ (entry_says name ms)

-- ---- the document

object_is : (j : json.Json) (ps : List (Val × Val)) → object_pairs j ≡ Some ps → (ms : json.Members) × (j ≡ json.object ms) × (whole_pairs ms ≡ Some ps)
object_is json.null ps e = absurd (cc)
object_is (json.boolean b) ps e = absurd (cc)
object_is (json.number s) ps e = absurd (cc)
object_is (json.string s) ps e = absurd (cc)
object_is (json.array js) ps e = absurd (cc)
object_is (json.object ms) ps e = (ms, refl, e)

last_is : (o : Option (json.Json × List Token)) (j : json.Json) → option_and_then (λ p. json.if_last p.0 p.1) o ≡ Some j → o ≡ Some (j, [])
last_is None j e = absurd (cc)
last_is (Some (i, [])) j e = ap (option_map (λ (k : json.Json). (k, []))) e
last_is (Some (i, t ∷ r)) j e = absurd (cc)

abbrev Reading : List ℕ → List (Val × Val) → Type 0
Reading s ps = (ms : json.Members) × (all : Members) × (whole_pairs ms ≡ Some ps) × (members_depth ms < 500) × (read s ≡ Some (object all)) × (named_values all ≡ put_all [] ps) × (members_have_float all ≡ false)

reading : (s : List ℕ) (ps : List (Val × Val)) → pairs_of_text s ≡ Some ps → Reading s ps
reading s ps e =
    let j = then_some object_pairs (option_and_then (λ p. json.if_last p.0 p.1) (json.value max_depth (tokens s))) ps e in
    let ms = object_is j.0 ps j.2 in
    let all = pairs_read ms.0 ps no_members ms.2 refl in
    let deep = value-depth max_depth (tokens s) [] j.0 (last_is _ j.0 j.1) in
    let said : read s ≡ Some (object all.0) = ap (option_and_then of_json) (j.1 ∙ ap Some ms.1) ∙ ap (option_map object) all.1 in
    (ms.0, all.0, ms.2, omega (arith, deep, ap nesting ms.1), said, all.2, all.3)

-- bytes that are a text of such a document, and the entries of its members
module _ (bytes s : List ℕ) (es : List Entry) (is : s ≡ bytes) (utf8 : IsUtf8 bytes) (given : pairs_of_text s ≡ Some (pairs_in es)) where
  seen : Reading s (pairs_in es)
  seen = reading s (pairs_in es) given

  said : data_in bytes ≡ Some (object seen.1)
  said = data_in_text bytes (object seen.1) utf8 (sym (ap read is) ∙ seen.4)

  pub read_faultless : fault_in bytes ≡ None
  read_faultless = ap fault_of_data said ∙ rw seen.6 refl

  pub read_is : option_map value_of (data_in bytes) ≡ Some (map (collected (pairs_in es)))
  read_is = ap (option_map value_of) said ∙ ap (λ (ps : List (Val × Val)). Some (map (pairs_of ps))) (ap (put_all []) seen.5 ∙ put_twice (pairs_in es))

  pub read_says : SayMembers bytes es
  read_says name =
      sym (entry_at-collected name (pairs_in es)) ∙ ap (λ (ps : List (Val × Val)). entry_at name (pairs_of ps)) (sym seen.5) ∙ entry_says name seen.1
      ∙ sym (ap (λ o. option_map value_of (option_and_then (get name) o)) said)

  pub read_plain : ArePlain es
  read_plain = plain_read seen.0 (pairs_in es) es seen.2 refl seen.3
