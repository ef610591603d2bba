-- What is called: the functions of an environment, the methods of values, and values.
use Rattle.std.specs.Prelude.{ℕ, ◌==◌, ◌%◌, nat_le, Bool, List, [], ◌∷◌, length, slice_get, Option, None, Some, unwrap_or, Result, Ok, Err, codes, bytes_eq, if◌then◌else◌}
use Rattle.template_values_errors.specs.declared.ErrorKind.{ErrorKind}
use Rattle.template_values_errors.specs.declared.ErrorKind.TheVariants.{InvalidOperation, UnknownFunction, MissingArgument}
use Rattle.template_values_model.specs.Val as values
use Rattle.template_values_model.specs.Val.{Val, «module», function, loop_record, macro_record, namespace}
use Rattle.template_values_model.specs.Lookup.{value_at}
use Rattle.template_values_core.specs.Maps.{pairs_of}
use Rattle.template_values_forms.specs.Known.{LoopSeen, MacroSeen, Known}
use Rattle.template_machine_meaning.specs.World.{Globals}
pub use Rattle.template_machine_meaning.specs.OwnFunctions.{bound_in, numbers_from, range_limit, numbers_listed, range_by, range_given, entries_of, base_in, dict_of, dict_given, names_in, namespace_given}
pub use Rattle.template_machine_meaning.specs.OwnFunctions.{Invoked, filter_named, test_named, function_numbered, method_of}
pub use Rattle.template_machine_meaning.specs.OwnFunctions.{Called, gives, makes, compares, invokes, calls, runs_again, namespace_called, own_called, own_functions}

-- those that a user gave to it come behind the numbers of these
abbrev pub function_called : Bool → ℕ → List Val → Called
function_called has_own number vs =
    if nat_le own_functions number then invokes (function_numbered number) vs
    else (if has_own then own_called number vs else gives (Err InvalidOperation))

-- a value is called: a function of the environment itself, or a macro; no other can be
abbrev pub value_called : Globals → Val → List Val → Called
value_called g (function other number) vs =
    if other == g.environment then function_called g.has_own number vs else gives (Err InvalidOperation)
value_called g (macro_record id number) vs = calls id number vs
value_called g v vs = gives (Err InvalidOperation)

-- what a name stands for is called as a value
abbrev pub found_called : Globals → Option Val → List Val → Called
found_called g (Some v) vs = value_called g v vs
found_called g None vs = gives (Err UnknownFunction)

-- or by the name, and so are the rounds of a loop
abbrev pub name_called : Globals → Option Val → List Val → Called
name_called g (Some (loop_record id number)) vs = runs_again id number vs
name_called g o vs = found_called g o vs

-- one argument of several, in turn, as the items of the loop are
abbrev pub place_or_first : Option ℕ → ℕ
place_or_first (Some i) = i
place_or_first None = 0

abbrev pub cycled : Option ℕ → List Val → Result Val ErrorKind
cycled at [] = Err MissingArgument
cycled at (v ∷ vs) = Ok (unwrap_or (slice_get (v ∷ vs) (place_or_first at % length (v ∷ vs))) values.undefined)

abbrev pub loop_called : List ℕ → ℕ → Option LoopSeen → List Val → Called → Called
loop_called name number (Some seen) vs missing =
    if bytes_eq name (codes "cycle") then gives (cycled seen.place vs)
    else (if bytes_eq name (codes "changed") then compares number vs
    else missing)
loop_called name number None vs missing = gives (Err InvalidOperation)

-- what an object has under the name is called
abbrev pub member_called : Globals → Option Val → List Val → Called → Called
member_called g (Some v) vs missing = value_called g v vs
member_called g None vs missing = missing

-- a method of an object; records that are not known have none, as a macro
abbrev pub macro_called : Option MacroSeen → Called → Called
macro_called (Some seen) missing = missing
macro_called None missing = gives (Err InvalidOperation)

abbrev pub entries_called : Globals → List ℕ → Option (List (Val × Val)) → List Val → Called → Called
entries_called g name (Some entries) vs missing = member_called g (value_at name (values.map (pairs_of entries))) vs missing
entries_called g name None vs missing = gives (Err InvalidOperation)

abbrev pub method_or : Globals → Known → List ℕ → Val → List Val → Called → Called
method_or g known name (loop_record id number) vs missing = loop_called name number (known.loops id number) vs missing
method_or g known name (namespace id number) vs missing = entries_called g name (known.namespaces id number) vs missing
method_or g known name (macro_record id number) vs missing = macro_called (known.macros id number) missing
method_or g known name (values.map ps) vs missing = member_called g (value_at name (values.map ps)) vs missing
method_or g known name («module» ps s) vs missing = member_called g (value_at name («module» ps s)) vs missing
method_or g known name v vs missing = missing

-- where it has none, a user's own answers for it
abbrev pub method_called : Globals → Known → List ℕ → Val → List Val → Called
method_called g known name v vs = method_or g known name v vs (invokes (method_of v name) vs)

-- a call over no values at all has no callee and no object
abbrev pub first_called : Globals → List Val → Called
first_called g (v ∷ vs) = value_called g v vs
first_called g [] = gives (Err InvalidOperation)

abbrev pub first_method : Globals → Known → List ℕ → List Val → Called
first_method g known name (v ∷ vs) = method_called g known name v vs
first_method g known name [] = gives (Err InvalidOperation)
