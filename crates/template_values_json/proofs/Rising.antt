-- Entries of members have keys that rise, as the members' names do.
use Rattle.std.proofs.Common.{◌≡◌, ℕ, List, [], ◌∷◌, Less, ap, string_bytes, string_cmp}
use Rattle.std.specs.List.{AllByRecursion}
use Rattle.std.specs.List.Sorted.{IsStrictlySortedBy}
use Rattle.std.specs.Map.{keys_of}
use Rattle.std.specs.Cmp.Lexicographic.{slice_cmp}
use Rattle.std.specs.Ordering.{nat_cmp, ordering_then}
use Rattle.std.specs.declared.cmp.Ordering.{Ordering}
use Rattle.std.specs.declared.cmp.Ordering.TheVariants.{Equal}
use Rattle.serde_json.specs.View.{members_view}
use Rattle.serde_json.proofs.Views.{Entry as Member}
use Rattle.template_values_model.specs.Val.{text}
use Rattle.template_values_core.specs.Kept.{IsRising}
use Rattle.template_values_core.specs.Order.{val_cmp}
use Rattle.template_values_core.specs.Shape.{pairs_in}
use Rattle.template_values_core.specs.declared.value.Entry.{Entry}
use Rattle.template_values_json.specs.Json.{named_values}

texts_less : (a b : List ℕ) → slice_cmp nat_cmp a b ≡ Less → val_cmp (text a) (text b) ≡ Less
texts_less a b less = ap (λ (o : Ordering). ordering_then o Equal) less

names_above : (m : Member) (later : List Member) → AllByRecursion (λ y. string_cmp m.0 y ≡ Less) (keys_of later)
    → AllByRecursion (λ y. val_cmp (text (string_bytes m.0)) y ≡ Less) (keys_of (named_values (members_view later)))
names_above m [] above = tt
names_above m (f ∷ later) above = (texts_less (string_bytes m.0) (string_bytes f.0) above.0, names_above m later above.1)

names_rise : (ms : List Member) → IsStrictlySortedBy string_cmp (keys_of ms) → IsStrictlySortedBy val_cmp (keys_of (named_values (members_view ms)))
unfolding IsStrictlySortedBy
names_rise [] sorted = tt
names_rise (m ∷ later) sorted = (names_above m later sorted.0, names_rise later sorted.1)

pub named_rising : (ms : List Member) (es : List Entry) → IsStrictlySortedBy string_cmp (keys_of ms) → pairs_in es ≡ named_values (members_view ms) → IsRising es
named_rising ms es sorted are = rw are (names_rise ms sorted)
