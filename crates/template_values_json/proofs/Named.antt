-- The last value under a name, among values in the order of their names.
use Rattle.std.proofs.Common.{◌≡◌, ℕ, List, [], ◌∷◌, Bool, true, false, Option, None, Some, Less, Equal, true≢false, refl, sym, ◌∙◌, string_bytes, string_cmp, if◌then◌else◌}
use Rattle.std.proofs.lemmas.Cmp.{nat_list_cmp_total, tied_itself}
use Rattle.std.proofs.lemmas.Slice.Eq.{bytes_eq-Decides}
use Rattle.std.specs.List.{AllByRecursion}
use Rattle.std.specs.List.Sorted.{IsStrictlySortedBy}
use Rattle.std.specs.Map.{keys_of}
use Rattle.std.specs.Option.{option_or, option_map}
use Rattle.std.specs.Str.{bytes_eq}
use Rattle.serde_json.specs.Data.{object}
use Rattle.serde_json.specs.Find.{get, get_member}
use Rattle.serde_json.specs.View.{view, members_view}
use Rattle.serde_json.proofs.Views.{Entry as Member, member_here, member_later}
use Rattle.template_values_model.specs.Val.{Val}
use Rattle.template_values_core.specs.Maps.{last_at}
use Rattle.template_values_json.specs.Json.{value_of, named_values}
use Rattle.template_values_json.proofs.Last.{or_none}

unequal : Less ≡ Equal → ⊥
unequal e = cc

absent_by : (b : Bool) (name : List ℕ) (m f : Member) (found : Option Val) → bytes_eq (string_bytes f.0) name ≡ b → name ≡ string_bytes m.0 → string_cmp m.0 f.0 ≡ Less → found ≡ None
    → option_or found (if bytes_eq (string_bytes f.0) name then Some (value_of (view f.1)) else None) ≡ None
absent_by true name m f found is here above none =
    let same : string_bytes m.0 ≡ string_bytes f.0 = sym here ∙ sym ((bytes_eq-Decides (string_bytes f.0) name).0 is) in
    absurd (unequal (sym above ∙ rw same (tied_itself nat_list_cmp_total (string_bytes f.0))))
absent_by false name m f found is here above none = rw (is, none) refl

-- those above a name have nothing under it
absent : (name : List ℕ) (m : Member) (later : List Member) → name ≡ string_bytes m.0 → AllByRecursion (λ y. string_cmp m.0 y ≡ Less) (keys_of later)
    → last_at name (named_values (members_view later)) ≡ None
absent name m [] here above = refl
absent name m (f ∷ later) here above =
    absent_by _ name m f (last_at name (named_values (members_view later))) refl here above.0 (absent name m later here above.1)

first_by : (b : Bool) (name : List ℕ) (m : Member) (later : List Member) → bytes_eq (string_bytes m.0) name ≡ b
    → AllByRecursion (λ y. string_cmp m.0 y ≡ Less) (keys_of later)
    → last_at name (named_values (members_view later)) ≡ option_map value_of (get_member name (members_view later))
    → option_or (last_at name (named_values (members_view later))) (if bytes_eq (string_bytes m.0) name then Some (value_of (view m.1)) else None)
    ≡ option_map value_of (get_member name (members_view (m ∷ later)))
first_by true name m later is above h =
    let here : name ≡ string_bytes m.0 = sym ((bytes_eq-Decides (string_bytes m.0) name).0 is) in
    rw (is, absent name m later here above, member_here name m later here) refl
first_by false name m later is above h =
    let apart = λ (e : name ≡ string_bytes m.0). true≢false (sym ((bytes_eq-Decides (string_bytes m.0) name).1 (sym e)) ∙ is) in
    rw (is, member_later name m later apart, or_none) h

pub names_say : (ms : List Member) → IsStrictlySortedBy string_cmp (keys_of ms)
    → (name : List ℕ) → last_at name (named_values (members_view ms)) ≡ option_map value_of (get name (object (members_view ms)))
unfolding IsStrictlySortedBy
names_say [] sorted name = refl
names_say (m ∷ later) sorted name = first_by _ name m later refl sorted.0 (names_say later sorted.1 name)
