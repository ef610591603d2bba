-- What the entries of a row say.
use Rattle.std.specs.Prelude.{◌≡◌, ◌⊎◌, ◌&&◌, ◌++◌, ℕ, List, [], ◌∷◌, Bool, true, false, Option, None, Some, Result, Ok, Err, codes, if◌then◌else◌, nat_lt, option_and_then, option_map, String, string_bytes}
use Rattle.std.specs.Borrow.{Bor}
use Rattle.std.specs.declared.alloc.Global.{Global}
use Rattle.std.specs.declared.io.ErrorKind.{ErrorKind as Failure}
use Rattle.std.specs.declared.io.ErrorKind.TheVariants.{Other, Interrupted, OutOfMemory}
use Rattle.std.specs.List.{list_any}
use Rattle.std.specs.Str.{bytes_eq}
use Rattle.serde_json.specs.Data.{Data, string, array, Items, no_items, item, Members, no_members, member}
use Rattle.serde_json.specs.Find.{as_number, as_str, as_u64, as_array}
use Rattle.serde_json.specs.View.{view}
use Rattle.serde_json.specs.declared.value.Value.{Value}
use Rattle.template_values_errors.specs.declared.ErrorKind.{ErrorKind}
use Rattle.template_values_errors.specs.declared.ErrorKind.TheVariants.{SyntaxError}
use Rattle.template_values_errors.specs.Memory.{NoMemory}
use Rattle.template_values_errors.specs.declared.modes.UndefinedBehavior.{UndefinedBehavior}
use Rattle.template_values_errors.specs.declared.modes.UndefinedBehavior.TheVariants.{Lenient, Chainable, SemiStrict, Strict}

-- an entry that is looked up, as its data
abbrev pub entry : Option (Bor Value) → Option Data
entry = option_map (λ e. view e.now)

-- the entry is unknown, or of another kind
abbrev pub Unreadable : List ErrorKind → Type 0
Unreadable kinds = kinds ≡ SyntaxError ∷ []

-- nothing can be read
abbrev pub Refuses : {A : Type 0} → Option A → List ErrorKind → Type 0
Refuses said kinds = (said ≡ None) × Unreadable kinds

-- nothing can be read, or no memory is left
abbrev pub RefusesOrWants : {A : Type 0} → Option A → List ErrorKind → Type 0
RefusesOrWants said kinds = Refuses said kinds ⊎ NoMemory kinds

-- what can be read is given, and nothing else
abbrev pub Reads : {A : Type 0} → Option A → Result A (List ErrorKind) → Type 0
Reads said (Ok x) = said ≡ Some x
Reads said (Err kinds) = Refuses said kinds

-- it holds, or is refused
abbrev pub Gives : {A : Type 0} → Bool → Result A (List ErrorKind) → Type 0
Gives holds (Ok x) = holds ≡ true
Gives holds (Err kinds) = (holds ≡ false) × Unreadable kinds

-- what an entry says, by how its data is read: nothing where it does not stand
abbrev pub said : {A : Type 0} → (Data → Option A) → Option Data → Option (Option A)
said read None = Some None
said read (Some d) = option_map Some (read d)

abbrev pub is_among : List (List ℕ) → List ℕ → Bool
is_among known name = list_any (λ word. bytes_eq word name) known

-- each member has one of these names
abbrev pub are_among : List (List ℕ) → Members → Bool
are_among known no_members = true
are_among known (member name d later) = is_among known name && are_among known later

abbrev pub number_in : Data → Option ℕ
number_in d = option_and_then as_u64 (as_number d)

-- the mode of undefined values of that name
abbrev pub mode_named : List ℕ → Option UndefinedBehavior
mode_named name =
    if bytes_eq name (codes "lenient") then Some Lenient
    else if bytes_eq name (codes "chainable") then Some Chainable
    else if bytes_eq name (codes "semi_strict") then Some SemiStrict
    else if bytes_eq name (codes "strict") then Some Strict
    else None

abbrev pub mode_in : Option Data → Option UndefinedBehavior
mode_in None = Some Lenient
mode_in (Some d) = option_and_then mode_named (as_str d)

-- all that the items are read as
abbrev pub all_in : {A : Type 0} → (Data → Option A) → Items → Option (List A)
all_in read no_items = Some []
all_in read (item d later) = option_and_then (λ x. option_map (λ xs. x ∷ xs) (all_in read later)) (read d)

abbrev pub texts_in : Data → Option (List (List ℕ))
texts_in d = option_and_then (all_in as_str) (as_array d)

-- a pair, of two texts
abbrev pub paired : List (List ℕ) → Option (List ℕ × List ℕ)
paired [] = None
paired (first ∷ []) = None
paired (first ∷ second ∷ []) = Some (first, second)
paired (first ∷ second ∷ third ∷ later) = None

abbrev pub pair_in : Data → Option (List ℕ × List ℕ)
pair_in d = option_and_then paired (texts_in d)

-- the pairs that an entry lists, none where it does not stand
abbrev pub pairs_in : Option Data → Option (List (List ℕ × List ℕ))
pairs_in None = Some []
pairs_in (Some d) = option_and_then (all_in pair_in) (as_array d)

abbrev pub Pair : Type 0
Pair = String Global × String Global

abbrev pub texts_of_pair : Pair → List ℕ × List ℕ
texts_of_pair pair = (string_bytes pair.0, string_bytes pair.1)

-- how a stream fails
abbrev pub failure_named : List ℕ → Option Failure
failure_named name =
    if bytes_eq name (codes "Other") then Some Other
    else if bytes_eq name (codes "Interrupted") then Some Interrupted
    else if bytes_eq name (codes "OutOfMemory") then Some OutOfMemory
    else None

abbrev pub failure_in : Data → Option Failure
failure_in d = option_and_then failure_named (as_str d)

abbrev pub byte_in : Data → Option ℕ
byte_in d = option_and_then (λ n. if nat_lt n 256 then Some n else None) (number_in d)

-- the bytes of a text, or of a number
abbrev pub part_in : Data → Option (List ℕ)
part_in (string s) = Some s
part_in d = option_map (λ b. b ∷ []) (byte_in d)

abbrev pub parts_in : Items → Option (List ℕ)
parts_in no_items = Some []
parts_in (item d later) = option_and_then (λ part. option_map (λ rest. part ++ rest) (parts_in later)) (part_in d)

abbrev pub bytes_in : Data → Option (List ℕ)
bytes_in (array parts) = parts_in parts
bytes_in d = part_in d
