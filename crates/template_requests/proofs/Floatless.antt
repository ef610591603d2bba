-- What is told of a failure has no floats.
use Rattle.std.proofs.Common.{◌≡◌, ◌∙◌, ◌||◌, ℕ, List, [], ◌∷◌, false, map, refl, ap}
use Rattle.serde_json.specs.Data.{Data}
use Rattle.serde_json.specs.View.{items_of}
use Rattle.serde_json.specs.Written.{has_float, items_have_float}
use Rattle.template_values_errors.specs.declared.ErrorKind.{ErrorKind}
use Rattle.template_values_errors.specs.declared.places.Place.{Place}
use Rattle.template_requests.specs.Failures.{failure_data, kind_data, place_data}

each_floatless : {A : Type 0} (f : A → Data) → ((x : A) → has_float (f x) ≡ false) → (xs : List A) → items_have_float (items_of (map f xs)) ≡ false
each_floatless f h [] = refl
each_floatless f h (x ∷ xs) = ap (λ b. b || items_have_float (items_of (map f xs))) (h x) ∙ each_floatless f h xs

pub failure_floatless : (kinds : List ErrorKind) (places : List Place) (text : List ℕ) → has_float (failure_data kinds places text) ≡ false
failure_floatless kinds places text =
    ap (λ b. b || (items_have_float (items_of (map place_data places)) || false)) (each_floatless kind_data (λ kind. refl) kinds)
    ∙ ap (λ b. b || false) (each_floatless place_data (λ place. refl) places)
