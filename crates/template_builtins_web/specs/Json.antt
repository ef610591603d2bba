-- The JSON text of a value, on one line or laid out.
use Rattle.std.specs.Prelude.{ℕ, suc, ℤ, pos, negsuc, Bool, true, false, List, [], ◌∷◌, ◌++◌, nat_le, codes, Option, None, Some, Result, Ok, if◌then◌else◌}
use Rattle.std.specs.List.{repeat}
use Rattle.json.specs.Print.{quoted}
use Rattle.serde_json.specs.Data.{Data, null, boolean, number, string, array, object, Items, no_items, item, Members, no_members, member}
use Rattle.serde_json.specs.Written.{comma_if, compact_text}
use Rattle.template_values_errors.specs.declared.ErrorKind.{ErrorKind}
use Rattle.template_values_model.specs.Val as value
use Rattle.template_values_model.specs.Val.{Val}
use Rattle.template_values_forms.specs.Json.{json_data}
use Rattle.template_values_forms.specs.Known.{nothing_known}
use Rattle.template_callables.specs.Callables.{View}
use Rattle.template_builtins_arguments.specs.Answers.{refused, told}
use Rattle.template_builtins_arguments.specs.Parts.{is_half_strict, unless_forbidden}
use Rattle.template_builtins_web.specs.declared.layout.TheConstants.{GREATEST_WIDTH}

-- the JSON of a value
abbrev pub data_of : View → Val → Result Data ErrorKind
data_of view v = unless_forbidden (is_half_strict view.undefined) v (told (json_data nothing_known v))

-- a new line, behind the indent of each level
abbrev pub next_line : List ℕ → ℕ → List ℕ
next_line indent level = 10 ∷ repeat level indent

-- before an item or a member: each has its line
abbrev pub before_item : Bool → List ℕ → ℕ → List ℕ
before_item later indent level = comma_if later ++ next_line indent (suc level)

-- before a closing bracket, which has its line where something stands before it
abbrev pub before_end : Bool → List ℕ → ℕ → List ℕ
before_end later indent level = if later then next_line indent level else []

abbrev pub pretty_key : List ℕ → List ℕ
pretty_key k = quoted k ++ codes ": "

-- serde_json's pretty form, with this indent for each level
abbrev mutual
  pub pretty_text : List ℕ → ℕ → Data → List ℕ
  pretty_text indent level null = compact_text null
  pretty_text indent level (boolean b) = compact_text (boolean b)
  pretty_text indent level (number n) = compact_text (number n)
  pretty_text indent level (string s) = compact_text (string s)
  pretty_text indent level (array ds) = 91 ∷ pretty_items false indent level ds
  pretty_text indent level (object ms) = 123 ∷ pretty_members false indent level ms

  -- with the closing bracket
  pub pretty_items : Bool → List ℕ → ℕ → Items → List ℕ
  pretty_items later indent level no_items = before_end later indent level ++ 93 ∷ []
  pretty_items later indent level (item d ds) =
      before_item later indent level ++ (pretty_text indent (suc level) d ++ pretty_items true indent level ds)

  pub pretty_members : Bool → List ℕ → ℕ → Members → List ℕ
  pretty_members later indent level no_members = before_end later indent level ++ 125 ∷ []
  pretty_members later indent level (member k d ms) =
      before_item later indent level ++ (pretty_key k ++ (pretty_text indent (suc level) d ++ pretty_members true indent level ms))

-- a value that holds others
abbrev pub nests : Val → Bool
nests (value.list vs) = true
nests (value.tuple vs) = true
nests (value.map ps) = true
nests (value.keyword_map ps) = true
nests (value.«module» ps s) = true
nests (value.namespace id place) = true
nests _ = false

-- so many spaces a level: below 0 it is 0, and it may not be past the greatest; or one line
abbrev pub layout_of : Option ℤ → Result (Option ℕ) ErrorKind
layout_of None = Ok None
layout_of (Some (pos n)) = if nat_le n GREATEST_WIDTH then Ok (Some n) else refused
layout_of (Some (negsuc n)) = Ok (Some 0)

abbrev pub text_by : Option ℕ → Data → List ℕ
text_by None d = compact_text d
text_by (Some width) d = pretty_text (repeat width (codes " ")) 0 d
