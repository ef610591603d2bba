-- The items and attributes of values. What is missing is undefined.
use Rattle.std.specs.Prelude.{ℕ, suc, ℤ, pos, negsuc, ◌-◌, nat_lt, if◌then◌else◌, List, length, slice_get, Option, None, Some, option_map, option_and_then, unwrap_or, Result, Ok, encode_utf8}
use Rattle.std.specs.Str.{chars}
use Rattle.template_values_model.specs.Fault.{Fault}
use Rattle.template_values_model.specs.Val.{Val, undefined, int, text, namespace, loop_record, macro_record}
use Rattle.template_values_model.specs.Lookup.{value_at}
use Rattle.template_values_core.specs.Answers.{text_in}
use Rattle.template_values_core.specs.Reads.{number_of, items_in, value_under}
use Rattle.template_values_forms.specs.Known.{Known}
use Rattle.template_values_operators.specs.Kinds.{bytes_of}
use Rattle.template_values_operators.specs.Records.{namespace_attribute, namespace_item, loop_attribute, macro_attribute}

-- the place in a list of this length that a number means: from the front, or where it is negative from the end
abbrev pub place : ℤ → ℕ → Option ℕ
place (pos n) len = if nat_lt n len then Some n else None
place (negsuc n) len = if nat_lt n len then Some (len - suc n) else None

-- the element at the place that a key means, where the key is a number
abbrev pub element : {X : Type 0} → Option ℤ → List X → Option X
element None xs = None
element (Some n) xs = option_and_then (λ i. slice_get xs i) (place n (length xs))

-- a byte as a number, and a character as a plain text
abbrev pub byte_value : ℕ → Val
byte_value b = int (pos b)

abbrev pub character_value : ℕ → Val
character_value c = text (encode_utf8 c)

-- by the items, the bytes and the text that a value holds, else by what it has under the key
abbrev pub item_in : Option (List Val) → Option (List ℕ) → Option (List ℕ) → Val → Val → Option Val
item_in (Some vs) _ _ value key = element (number_of key) vs
item_in None (Some s) _ value key = option_map byte_value (element (number_of key) s)
item_in None None (Some s) value key = option_map character_value (element (number_of key) (chars s))
item_in None None None value key = value_under key value

-- what a value that is no record has under a key
abbrev pub held_item : Val → Val → Val
held_item value key = unwrap_or (item_in (items_in value) (bytes_of value) (text_in value) value key) undefined

-- records are looked into; what they have under a text are their attributes
abbrev pub item_of : Known → Val → Val → Result Val Fault
item_of known (namespace id number) key = namespace_item key (known.namespaces id number)
item_of known (loop_record id number) key = loop_attribute (text_in key) (known.loops id number)
item_of known (macro_record id number) key = macro_attribute (text_in key) (known.macros id number)
item_of known value key = Ok (held_item value key)

-- attributes are what a map, keyword map, module or record has under a text
abbrev pub attribute_of : Known → Val → List ℕ → Result Val Fault
attribute_of known (namespace id number) name = namespace_attribute name (known.namespaces id number)
attribute_of known (loop_record id number) name = loop_attribute (Some name) (known.loops id number)
attribute_of known (macro_record id number) name = macro_attribute (Some name) (known.macros id number)
attribute_of known value name = Ok (unwrap_or (value_at name value) undefined)
