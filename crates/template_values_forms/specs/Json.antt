-- The JSON of a value, as data of serde_json.
use Rattle.std.specs.Prelude.{ℕ, zero, suc, ℤ, pos, negsuc, List, [], ◌∷◌, ◌++◌, Option, None, Some, Result, Ok, Err, if◌then◌else◌, nat_le, int_le}
use Rattle.json.specs.Print.{quoted}
use Rattle.serde_json.specs.Data.{unsigned, negative, Data, null, boolean, number, string, array, object, Items, no_items, item, Members, no_members, member}
use Rattle.template_values_model.specs.Fault.{Fault, invalid_operation, bad_serialization}
use Rattle.template_values_model.specs.Val.{Val, Vals, Pairs, undefined, silent_undefined, none, truth, int, text, safe_text, bytes, list, tuple, map, keyword_map, «module», function, namespace, loop_record, macro_record, no_vals, vals_more, no_pairs, pairs_more}
use Rattle.template_values_core.specs.Maps.{pairs_of}
use Rattle.template_values_forms.specs.declared.TheConstants.{GREATEST_JSON_NUMBER, LEAST_JSON_NUMBER}
use Rattle.template_values_forms.specs.Answers.{mapped}
use Rattle.template_values_forms.specs.Known.{Known}
use Rattle.template_values_forms.specs.Printed.{level_limit}

-- a number from the least to the greatest
abbrev pub number_data : ℤ → Result Data Fault
number_data (pos n) = if nat_le n GREATEST_JSON_NUMBER then Ok (number (unsigned n)) else Err bad_serialization
number_data (negsuc n) =
    if int_le LEAST_JSON_NUMBER (negsuc n) then Ok (number (negative (negsuc n))) else Err bad_serialization

abbrev pub byte_items : List ℕ → Items
byte_items [] = no_items
byte_items (b ∷ bs) = item (number (unsigned b)) (byte_items bs)

-- one item more; of refusals the first
abbrev pub item_more : Result Data Fault → Result Items Fault → Result Items Fault
item_more (Ok d) (Ok ds) = Ok (item d ds)
item_more (Ok d) (Err fault) = Err fault
item_more (Err fault) _ = Err fault

abbrev pub items_data : (Val → Result Data Fault) → Vals → Result Items Fault
items_data f no_vals = Ok no_items
items_data f (vals_more v vs) = item_more (f v) (items_data f vs)

-- keys are texts
abbrev pub key_data : Val → Result (List ℕ) Fault
key_data (text s) = Ok s
key_data (safe_text s) = Ok s
key_data _ = Err bad_serialization

-- one member more; of refusals the first
abbrev pub member_more : Result (List ℕ) Fault → Result Data Fault → Result Members Fault → Result Members Fault
member_more (Ok k) (Ok d) (Ok ms) = Ok (member k d ms)
member_more (Ok k) (Ok d) (Err fault) = Err fault
member_more (Ok k) (Err fault) _ = Err fault
member_more (Err fault) _ _ = Err fault

abbrev pub members_data : (Val → Result Data Fault) → Pairs → Result Members Fault
members_data f no_pairs = Ok no_members
members_data f (pairs_more k v ps) = member_more (key_data k) (f v) (members_data f ps)

abbrev pub namespace_data : (Val → Result Data Fault) → Option (List (Val × Val)) → Result Data Fault
namespace_data f None = Err invalid_operation
namespace_data f (Some ps) = mapped object (members_data f (pairs_of ps))

-- where no value may nest further
abbrev pub flat_data : Val → Result Data Fault
flat_data undefined = Ok null
flat_data silent_undefined = Ok null
flat_data none = Ok null
flat_data (truth b) = Ok (boolean b)
flat_data (int n) = number_data n
flat_data (text s) = Ok (string s)
flat_data (safe_text s) = Ok (string s)
flat_data (bytes s) = Ok (array (byte_items s))
flat_data (function id place) = Err bad_serialization
flat_data (loop_record id place) = Err bad_serialization
flat_data (macro_record id place) = Err bad_serialization
flat_data _ = Err invalid_operation

-- where `f` gives the data of what nests in a value
abbrev pub nested_data : Known → (Val → Result Data Fault) → Val → Result Data Fault
nested_data known f (list vs) = mapped array (items_data f vs)
nested_data known f (tuple vs) = mapped array (items_data f vs)
nested_data known f (map ps) = mapped object (members_data f ps)
nested_data known f (keyword_map ps) = mapped object (members_data f ps)
nested_data known f («module» ps s) = mapped object (members_data f ps)
nested_data known f (namespace id place) = namespace_data f (known.namespaces id place)
nested_data known f v = flat_data v

-- where values may nest so many levels deep; namespaces are followed
abbrev pub inner_data : Known → ℕ → Val → Result Data Fault
inner_data known zero v = flat_data v
inner_data known (suc n) v = nested_data known (inner_data known n) v

abbrev pub json_data : Known → Val → Result Data Fault
json_data known v = inner_data known level_limit v

-- a key with its colon
abbrev pub key_text : List ℕ → List ℕ
key_text k = quoted k ++ 58 ∷ []
