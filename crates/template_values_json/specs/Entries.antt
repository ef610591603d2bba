-- What entries of a map say of the members of JSON: the last one with a name counts.
use Rattle.std.specs.Prelude.{◌≡◌, ◌<◌, ℕ, List, option_and_then, option_map, [], ◌∷◌}
use Rattle.serde_json.specs.Data.{Data}
use Rattle.serde_json.specs.Find.{get}
use Rattle.template_values_model.specs.Val.{Val, text}
use Rattle.template_values_model.specs.declared.TheConstants.{DEPTH_LIMIT}
use Rattle.template_values_core.specs.Depth.{depth}
use Rattle.template_values_core.specs.Maps.{last_at}
use Rattle.template_values_core.specs.Shape.{pairs_in}
use Rattle.template_values_core.specs.declared.value.Entry.{Entry}
use Rattle.template_values_json.specs.Json.{data_in, value_of}

abbrev pub IsPlainText : Val → Type 0
IsPlainText v = (bytes : List ℕ) × (v ≡ text bytes)

-- keys are plain texts, and values leave a level for a map of them
abbrev pub ArePlain : List Entry → Type 0
ArePlain [] = Unit {0}
ArePlain (e ∷ later) = IsPlainText e.key × (depth e.value < DEPTH_LIMIT) × ArePlain later

-- the entries say the same as the members of the data
abbrev pub SayData : Data → List Entry → Type 0
SayData d entries = (name : List ℕ) → last_at name (pairs_in entries) ≡ option_map value_of (get name d)

-- the entries say the same as the members of the JSON
abbrev pub SayMembers : List ℕ → List Entry → Type 0
SayMembers bytes entries = (name : List ℕ)
    → last_at name (pairs_in entries) ≡ option_map value_of (option_and_then (get name) (data_in bytes))
