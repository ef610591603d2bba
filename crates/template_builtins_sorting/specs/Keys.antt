-- The keys that items are compared by.
use Rattle.std.specs.Prelude.{Bool, true, false, List, [], ◌∷◌, Option, Result, Ok, Err, nat_le, if◌then◌else◌}
use Rattle.std.specs.StrCase.Lower.{str_to_lowercase}
use Rattle.template_values_errors.specs.declared.ErrorKind.{ErrorKind}
use Rattle.template_values_model.specs.declared.TheConstants.{DEPTH_LIMIT}
use Rattle.template_values_model.specs.Fault.{Fault, invalid_operation}
use Rattle.template_values_model.specs.Val.{Val, text, safe_text, tuple, vals_of}
use Rattle.template_values_core.specs.Depth.{depth}
use Rattle.template_callables.specs.Callables.{View}
use Rattle.template_builtins_arguments.specs.Answers.{Made, then as after, told}
use Rattle.template_builtins_paths.specs.Paths.{part_of}
use Rattle.template_builtins_sorting.specs.declared.keyed.Keyed.{Keyed}

-- what comes of each, in turn
abbrev pub each : {T U : Type 0} → (T → Result U ErrorKind) → List T → Result (List U) ErrorKind
each f [] = Ok []
each f (x ∷ xs) = after (f x) (λ y. after (each f xs) (λ ys. Ok (y ∷ ys)))

-- a text by its lower case, where its case does not count
abbrev pub folded : Bool → Val → Val
folded true v = v
folded false (text s) = text (str_to_lowercase s)
folded false (safe_text s) = text (str_to_lowercase s)
folded false v = v

-- the part at a path, folded
unfoldable pub folded_part : View → Option Val → Bool → Val → Val → Made
folded_part view default cased v path = after (part_of view v path default) (λ part. Ok (folded cased part))

-- the tuple of these items, refused where it nests too deep
abbrev pub tuple_made : List Val → Result Val Fault
tuple_made vs = if nat_le (depth (tuple (vals_of vs))) DEPTH_LIMIT then Ok (tuple (vals_of vs)) else Err invalid_operation

-- the key of a value: itself, or its part at a path, or the tuple of its parts at several paths
unfoldable pub key_of : View → List Val → Option Val → Bool → Val → Made
key_of view [] default cased v = Ok (folded cased v)
key_of view (path ∷ []) default cased v = folded_part view default cased v path
key_of view (path ∷ next ∷ paths) default cased v =
    after (each (folded_part view default cased v) (path ∷ next ∷ paths)) (λ parts. told (tuple_made parts))

abbrev pub with_key : (Val → Made) → Val → Result Keyed ErrorKind
with_key key v = after (key v) (λ k. Ok (record { key = k; item = v }))

-- the items with their keys
unfoldable pub keyed : View → List Val → Option Val → Bool → List Val → Result (List Keyed) ErrorKind
keyed view paths default cased = each (with_key (key_of view paths default cased))
