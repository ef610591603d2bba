-- What values of some kinds hold, and lists that are made.
use Rattle.std.specs.Prelude.{ℕ, Bool, true, false, nat_le, if◌then◌else◌, List, Option, None, Some, Result, Ok, Err}
use Rattle.template_values_model.specs.Fault.{Fault, invalid_operation}
use Rattle.template_values_model.specs.declared.TheConstants.{DEPTH_LIMIT}
use Rattle.template_values_model.specs.Val.{Val, undefined, silent_undefined, none, bytes, list, items_of, vals_of}
use Rattle.template_values_core.specs.Depth.{depth}

-- the bytes of a value of bytes
abbrev pub bytes_of : Val → Option (List ℕ)
bytes_of (bytes s) = Some s
bytes_of _ = None

-- the items of a list, not of a tuple
abbrev pub list_of : Val → Option (List Val)
list_of (list vs) = Some (items_of vs)
list_of _ = None

-- undefined in either form, or none
abbrev pub is_nothing : Val → Bool
is_nothing undefined = true
is_nothing silent_undefined = true
is_nothing none = true
is_nothing _ = false

abbrev pub is_undefined : Val → Bool
is_undefined undefined = true
is_undefined silent_undefined = true
is_undefined _ = false

abbrev pub is_none : Val → Bool
is_none none = true
is_none _ = false

-- the list of these items, refused where it nests too deep
abbrev pub list_made : List Val → Result Val Fault
list_made vs = if nat_le (depth (list (vals_of vs))) DEPTH_LIMIT then Ok (list (vals_of vs)) else Err invalid_operation
