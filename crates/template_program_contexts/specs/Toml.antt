-- The value that TOML stands for, and why TOML is refused.
use Rattle.std.specs.Prelude.{ℕ, List, [], ◌∷◌, Option, None, Some, option_and_then, nat_lt, if◌then◌else◌}
use Rattle.std.specs.Option.{option_or}
use Rattle.std.specs.Str.{is_utf8}
use Rattle.toml.specs.Data.{Data, string, integer, float, boolean, datetime, array, table, Items, no_items, item, Members, no_members, member}
use Rattle.toml.specs.Parse.{parse_document}
use Rattle.template_values_errors.specs.declared.ErrorKind.{ErrorKind}
use Rattle.template_values_errors.specs.declared.ErrorKind.TheVariants.{BadSerialization, InvalidOperation, NoFloats, SyntaxError}
use Rattle.template_values_model.specs.Val.{Val, Vals, undefined, truth, int, text, list, map, no_vals, vals_more}
use Rattle.template_values_model.specs.Lookup.{value_at}
use Rattle.template_values_model.specs.declared.TheConstants.{DEPTH_LIMIT}
use Rattle.template_values_core.specs.Depth.{depth}
use Rattle.template_values_core.specs.Maps.{collected}

-- An array is a list, a table a map whose keys are its names as plain texts. A float, a date and a time have no value (TOML that holds
-- one is refused), and are undefined here.
abbrev mutual
  pub toml_value : Data → Val
  toml_value (string s) = text s
  toml_value (integer z) = int z
  toml_value (float x) = undefined
  toml_value (boolean b) = truth b
  toml_value (datetime d) = undefined
  toml_value (array items) = list (toml_values items)
  toml_value (table inner) = map (collected (toml_pairs inner))

  pub toml_values : Items → Vals
  toml_values no_items = no_vals
  toml_values (item d later) = vals_more (toml_value d) (toml_values later)

  pub toml_pairs : Members → List (Val × Val)
  toml_pairs no_members = []
  toml_pairs (member name d later) = (text name, toml_value d) ∷ toml_pairs later

-- what stands in an array or a table leaves a level for it
abbrev pub fault_of_depth : Val → Option ErrorKind
fault_of_depth v = if nat_lt (depth v) DEPTH_LIMIT then None else Some InvalidOperation

-- the first that is refused, by the order of names
abbrev mutual
  pub toml_fault : Data → Option ErrorKind
  toml_fault (float x) = Some NoFloats
  toml_fault (datetime d) = Some BadSerialization
  toml_fault (array items) = items_fault items
  toml_fault (table inner) = members_fault inner
  toml_fault _ = None

  pub items_fault : Items → Option ErrorKind
  items_fault no_items = None
  items_fault (item d later) = option_or (toml_fault d) (option_or (fault_of_depth (toml_value d)) (items_fault later))

  pub members_fault : Members → Option ErrorKind
  members_fault no_members = None
  members_fault (member name d later) = option_or (toml_fault d) (option_or (fault_of_depth (toml_value d)) (members_fault later))

abbrev pub fault_of_part : Data → Option ErrorKind
fault_of_part d = option_or (toml_fault d) (fault_of_depth (toml_value d))

-- what the bytes say as TOML, where they are a text
abbrev pub toml_in : List ℕ → Option Members
toml_in bytes = if is_utf8 bytes then parse_document bytes else None

abbrev pub fault_of_table : Option Members → Option ErrorKind
fault_of_table None = Some SyntaxError
fault_of_table (Some inner) = members_fault inner

-- the refusal of TOML, if any
abbrev pub fault_of_toml : List ℕ → Option ErrorKind
fault_of_toml bytes = fault_of_table (toml_in bytes)

-- what TOML has under a name
abbrev pub toml_member : List ℕ → List ℕ → Option Val
toml_member bytes name = option_and_then (λ inner. value_at name (toml_value (table inner))) (toml_in bytes)
