-- The part of a value at a path.
use Rattle.std.specs.Prelude.{ℕ, ℤ, pos, Bool, true, false, ◌&&◌, ◌==◌, nat_lt, if◌then◌else◌, List, [], ◌∷◌, length, Option, None, Some, Result, Ok, Err}
use Rattle.std.specs.Char.{is_ascii_digit}
use Rattle.std.specs.List.{list_all, slice_split}
use Rattle.std.specs.Str.Parse.{digits_value}
use Rattle.template_values_errors.specs.declared.ErrorKind.{ErrorKind}
use Rattle.template_values_errors.specs.declared.ErrorKind.TheVariants.{UndefinedError}
use Rattle.template_values_errors.specs.declared.modes.UndefinedBehavior.{UndefinedBehavior}
use Rattle.template_values_errors.specs.declared.modes.UndefinedBehavior.TheVariants.{Lenient, Chainable, SemiStrict, Strict}
use Rattle.template_values_model.specs.Val.{Val, undefined, int, text, safe_text}
use Rattle.template_values_forms.specs.Known.{nothing_known}
use Rattle.template_values_operators.specs.Numbers.{in_range}
use Rattle.template_values_operators.specs.Items.{item_of, attribute_of}
use Rattle.template_values_operators.specs.Kinds.{is_none, is_undefined}
use Rattle.template_callables.specs.Callables.{View}
use Rattle.template_builtins_arguments.specs.Answers.{Made, then as after, told, refused}

-- what stands between the dots
abbrev pub parts_of : List ℕ → List (List ℕ)
parts_of path = slice_split (λ b. b == 46) path

-- one ASCII digit or more, and nothing else
unfoldable pub is_number : List ℕ → Bool
is_number part = nat_lt 0 (length part) && list_all is_ascii_digit part

-- the number that digits write; none past the numbers of the language
unfoldable pub number_named : List ℕ → Option ℤ
number_named part = in_range (pos (digits_value 10 part))

unfoldable pub item_at : Val → ℤ → Made
item_at v n = told (item_of nothing_known v (int n))

-- an item by its number, of which there is none where the number is none of the language
unfoldable pub item_numbered : Val → Option ℤ → Made
item_numbered v (Some n) = item_at v n
item_numbered v None = after (item_at v (pos 0)) (λ first. Ok undefined)

-- digits are an item, another part is an attribute
unfoldable pub part_at : Val → List ℕ → Made
part_at v part = if is_number part then item_numbered v (number_named part) else told (attribute_of nothing_known v part)

-- the part of a part and so on; nothing where one of them would be a part of an undefined value
abbrev pub reached : Val → List (List ℕ) → Result (Option Val) ErrorKind
reached v [] = Ok (Some v)
reached v (part ∷ parts) = if is_undefined v then Ok None else after (part_at v part) (λ found. reached found parts)

-- the item of a number
unfoldable pub item_reached : Val → ℤ → Result (Option Val) ErrorKind
item_reached v n = if is_undefined v then Ok None else after (item_at v n) (λ found. Ok (Some found))

-- a path is a text or a whole number
abbrev pub is_path : Val → Bool
is_path (text path) = true
is_path (safe_text path) = true
is_path (int n) = true
is_path _ = false

unfoldable pub found_at : Val → Val → Result (Option Val) ErrorKind
found_at v (text path) = reached v (parts_of path)
found_at v (safe_text path) = reached v (parts_of path)
found_at v (int n) = item_reached v n
found_at v _ = refused

abbrev pub is_chainable : UndefinedBehavior → Bool
is_chainable Chainable = true
is_chainable Lenient = false
is_chainable SemiStrict = false
is_chainable Strict = false

-- what a part of an undefined value is
unfoldable pub part_of_undefined : View → Made
part_of_undefined view = if is_chainable view.undefined then Ok undefined else Err UndefinedError

-- a default that is not none
unfoldable pub stand_in : Option Val → Option Val
stand_in None = None
stand_in (Some v) = if is_none v then None else Some v

-- what is found, or what stands in for what is undefined
unfoldable pub settled : View → Option Val → Option Val → Made
settled view (Some d) None = Ok d
settled view (Some d) (Some v) = Ok (if is_undefined v then d else v)
settled view None None = part_of_undefined view
settled view None (Some v) = Ok v

-- the part of a value at a path
unfoldable pub part_of : View → Val → Val → Option Val → Made
part_of view v path default = after (found_at v path) (settled view (stand_in default))
