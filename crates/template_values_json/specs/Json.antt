-- The value that JSON stands for, and why JSON is refused.
use Rattle.std.specs.Prelude.{◌≡◌, ℕ, List, [], ◌∷◌, Option, None, Some, ◌⊎◌, option_map, unwrap_or, if◌then◌else◌}
use Rattle.std.specs.Str.{is_utf8}
use Rattle.serde_json.specs.Data.{Data, null, boolean, number, string, array, object, Items, no_items, item, Members, no_members, member}
use Rattle.serde_json.specs.Find.{as_integer}
use Rattle.serde_json.specs.Read.{read}
use Rattle.serde_json.specs.Written.{has_float}
use Rattle.template_values_errors.specs.declared.ErrorKind.{ErrorKind}
use Rattle.template_values_errors.specs.declared.ErrorKind.TheVariants.{SyntaxError, InvalidOperation, NoFloats}
use Rattle.template_values_errors.specs.Memory.{NoMemory}
use Rattle.template_values_model.specs.Val.{Val, Vals, undefined, none, truth, int, text, list, map, no_vals, vals_more}
use Rattle.template_values_core.specs.Maps.{collected}

-- what the bytes say as JSON, where they are a text that can be read
abbrev pub data_in : List ℕ → Option Data
data_in bytes = if is_utf8 bytes then read bytes else None

-- The value that JSON stands for: an array is a list, an object a map whose keys are its names as plain texts.
-- A float has no value (JSON that holds one is refused), and is undefined here.
abbrev mutual
  pub value_of : Data → Val
  value_of null = none
  value_of (boolean b) = truth b
  value_of (number n) = unwrap_or (option_map int (as_integer n)) undefined
  value_of (string s) = text s
  value_of (array items) = list (values_of items)
  value_of (object inner) = map (collected (named_values inner))

  pub values_of : Items → Vals
  values_of no_items = no_vals
  values_of (item d later) = vals_more (value_of d) (values_of later)

  pub named_values : Members → List (Val × Val)
  named_values no_members = []
  named_values (member name d later) = (text name, value_of d) ∷ named_values later

-- the refusal of JSON that was read and has no float
abbrev pub fault_of_top : Data → Option ErrorKind
fault_of_top (object inner) = None
fault_of_top _ = Some InvalidOperation

abbrev pub fault_of_data : Option Data → Option ErrorKind
fault_of_data None = Some SyntaxError
fault_of_data (Some d) = if has_float d then Some NoFloats else fault_of_top d

-- the refusal that the bytes get, if any
abbrev pub fault_in : List ℕ → Option ErrorKind
fault_in bytes = fault_of_data (data_in bytes)

-- the error is want of memory, or the fault alone
abbrev pub IsRefusal : Option ErrorKind → List ErrorKind → Type 0
IsRefusal fault kinds = NoMemory kinds ⊎ ((kind : ErrorKind) × (fault ≡ Some kind) × (kinds ≡ kind ∷ []))
