-- What a loop goes over.
use Rattle.std.specs.Prelude.{ℕ, Bool, true, false, List, [], ◌∷◌, Option, None, Some, Result, Ok, Err, Vec, map}
use Rattle.std.specs.Str.{chars}
use Rattle.template_values_errors.specs.declared.ErrorKind.{ErrorKind}
use Rattle.template_values_model.specs.Fault.{Fault, invalid_operation}
use Rattle.template_values_model.specs.Val.{Val, Pairs, namespace, no_pairs, pairs_more}
use Rattle.template_values_core.specs.Answers.{text_in}
use Rattle.template_values_core.specs.Maps.{pairs_of}
use Rattle.template_values_core.specs.Reads.{items_in, pairs_held}
use Rattle.template_values_forms.specs.Known.{Known}
use Rattle.template_values_operators.specs.Kinds.{is_nothing}
use Rattle.template_values_operators.specs.Items.{character_value}

-- the keys of pairs, in order
abbrev pub keys_in : Pairs → List Val
keys_in no_pairs = []
keys_in (pairs_more k v ps) = k ∷ keys_in ps

-- items, the characters of a text, keys; nothing of undefined and none; all else is refused
abbrev pub iterated_by : Option (List Val) → Option (List ℕ) → Option Pairs → Bool → Result (List Val) Fault
iterated_by (Some vs) _ _ _ = Ok vs
iterated_by None (Some s) _ _ = Ok (map character_value (chars s))
iterated_by None None (Some ps) _ = Ok (keys_in ps)
iterated_by None None None true = Ok []
iterated_by None None None false = Err invalid_operation

-- of a value that is no record
abbrev pub held_items : Val → Result (List Val) Fault
held_items value = iterated_by (items_in value) (text_in value) (pairs_held value) (is_nothing value)

-- the keys of a namespace; a foreign one is refused
abbrev pub namespace_keys : Option (List (Val × Val)) → Result (List Val) Fault
namespace_keys None = Err invalid_operation
namespace_keys (Some ps) = Ok (keys_in (pairs_of ps))

abbrev pub iterated : Known → Val → Result (List Val) Fault
iterated known (namespace id number) = namespace_keys (known.namespaces id number)
iterated known value = held_items value

-- the items of a call's vector
abbrev pub items_given : {Z : Type 0} → Result (Vec Val Z) (List ErrorKind) → Result (List Val) (List ErrorKind)
items_given (Ok vector) = Ok vector.items
items_given (Err kinds) = Err kinds
