-- The values of JSON in which no JSON stands.
use Rattle.std.specs.Prelude.{◌≡◌, ◌⊎◌, List, [], ◌∷◌, Bool, true, option_map, unwrap_or}
use Rattle.serde_json.specs.Data.{Data, null, boolean, number, string, array, object}
use Rattle.serde_json.specs.Find.{as_integer}
use Rattle.template_values_errors.specs.declared.ErrorKind.{ErrorKind}
use Rattle.template_values_errors.specs.declared.ErrorKind.TheVariants.{NoFloats}
use Rattle.template_values_errors.specs.Memory.{NoMemory}
use Rattle.template_values_model.specs.Val.{Val, undefined, none, truth, int, text}

-- it is no array and no object
abbrev pub IsLeaf : Data → Type 0
IsLeaf (array items) = ⊥
IsLeaf (object inner) = ⊥
IsLeaf _ = Unit {0}

-- A float has no value (JSON that holds one is refused), and is undefined here, as what is no leaf.
abbrev pub leaf_value : Data → Val
leaf_value null = none
leaf_value (boolean b) = truth b
leaf_value (number n) = unwrap_or (option_map int (as_integer n)) undefined
leaf_value (string s) = text s
leaf_value (array items) = undefined
leaf_value (object inner) = undefined

-- the error is want of memory, or that a float stands in the JSON, where one does
abbrev pub IsFloatRefusal : Bool → List ErrorKind → Type 0
IsFloatRefusal floats kinds = NoMemory kinds ⊎ ((floats ≡ true) × (kinds ≡ NoFloats ∷ []))
