-- What is told of a failure.
use Rattle.std.proofs.Common.{◌≡◌, ◌∙◌, ◌++◌, ℕ, List, [], Result, Ok, Err, IfOk, OnOk, String, Vec, append_assoc, false, map, string_bytes, ap, sym, rules}
use Rattle.std.proofs.lemmas.List.{map-append}
use Rattle.std.specs.declared.alloc.Global.{Global}
use Rattle.serde_json.specs.Data.{Data, array, string}
use Rattle.serde_json.specs.View.{items_of, view}
use Rattle.serde_json.specs.Written.{compact_text, has_float}
use Rattle.serde_json.specs.declared.value.Value as json
use Rattle.serde_json.proofs.Views.{view-Array}
use Rattle.template_values_errors.specs.declared.ErrorKind.{ErrorKind}
use Rattle.template_values_errors.specs.declared.places.Place.{Place}
use Rattle.template_requests.specs.Failures.{AddsPlaces, TellsFailure, failure_data, failure_with, kind_data, place_data}
use Rattle.template_requests.proofs.Floatless.{failure_floatless}

-- the text of what is told
pub told_so : {E : Type 0} (written : Result (String Global) E) (told : Data) (kinds : List ErrorKind) (text : List ℕ)
    → (places : List Place) × (told ≡ failure_data kinds places text)
    → IfOk written (λ s. has_float told ≡ false → string_bytes s ≡ compact_text told)
    → IfOk written (λ s. TellsFailure kinds text (string_bytes s))
told_so (Ok s) told kinds text is h = (is.0, h (ap has_float is.1 ∙ failure_floatless kinds is.0 text) ∙ ap compact_text is.1)
told_so (Err e) told kinds text is h = tt

-- the data of a text
view_text : (text : String Global) → view (json.String text) ≡ string (string_bytes text)
view_text text = search (rules, json.the_lemmas)

-- an object of the kinds and the places that were added to none
pub failure_so : {E : Type 0} (made : Result json.Value E) (kinds : List ErrorKind) (ks ps : Vec json.Value Global) (text : String Global)
    (no_kinds no_places : List Data) → no_kinds ≡ [] → map view ks.items ≡ no_kinds ++ map kind_data kinds
    → no_places ≡ [] → AddsPlaces no_places (map view ps.items)
    → IfOk made (λ told. view told ≡ failure_with (view (json.Array ks)) (view (json.Array ps)) (view (json.String text)))
    → IfOk made (λ told. (places : List Place) × (view told ≡ failure_data kinds places (string_bytes text)))
failure_so (Ok told) kinds ks ps text no_kinds no_places a b c d h =
    let listed : List Data → Data = λ each. array (items_of each) in
    let k : view (json.Array ks) ≡ listed (map kind_data kinds) =
    view-Array ks ∙ ap listed (b ∙ ap (λ (x : List Data). x ++ map kind_data kinds) a) in
    let p : view (json.Array ps) ≡ listed (map place_data d.0) =
    view-Array ps ∙ ap listed (d.1 ∙ ap (λ (x : List Data). x ++ map place_data d.0) c) in (
      d.0,
      h ∙ (ap (λ (x : Data). failure_with x (view (json.Array ps)) (view (json.String text))) k
          ∙ (ap (λ (x : Data). failure_with (listed (map kind_data kinds)) x (view (json.String text))) p
          ∙ ap (λ (x : Data). failure_with (listed (map kind_data kinds)) (listed (map place_data d.0)) x) (view_text text))),
    )
failure_so (Err e) kinds ks ps text no_kinds no_places a b c d h = tt

adds_more : (before now after : List Data) (each : List Place) → now ≡ before ++ map place_data each → AddsPlaces now after → AddsPlaces before after
adds_more before now after each e later = (
  each ++ later.0,
  later.1 ∙ (ap (λ (x : List Data). x ++ map place_data later.0) e
      ∙ (append_assoc before (map place_data each) (map place_data later.0)
      ∙ ap (λ (x : List Data). before ++ x) (sym (map-append place_data each later.0)))),
)

-- places that are added after others
pub adds_later : {E : Type 0} (done : Result (Unit {0}) E) (before now after : List Data) (each : List Place)
    → now ≡ before ++ map place_data each → OnOk done (AddsPlaces now after) → OnOk done (AddsPlaces before after)
adds_later (Ok u) before now after each e later = adds_more before now after each e later
adds_later (Err x) before now after each e later = tt
