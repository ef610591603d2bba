-- The kinds of values.
use Rattle.std.specs.Prelude.{Bool, true, false, not}
use Rattle.template_values_model.specs.Val.{Val, truth, int, text, safe_text, bytes, list, tuple, map, keyword_map, «module», function, namespace, loop_record, macro_record}
use Rattle.template_values_operators.specs.Kinds.{is_none, is_undefined}
use Rattle.template_builtins_arguments.specs.Texts.{is_safe}
use Rattle.template_builtins_tests.specs.declared.kinds.ValueKind.{ValueKind}
use Rattle.template_builtins_tests.specs.declared.kinds.ValueKind.TheVariants as kinds

abbrev pub is_boolean : Val → Bool
is_boolean (truth b) = true
is_boolean _ = false

abbrev pub is_true : Val → Bool
is_true (truth b) = b
is_true _ = false

abbrev pub is_false : Val → Bool
is_false (truth b) = not b
is_false _ = false

-- a whole number, no truth value
abbrev pub is_number : Val → Bool
is_number (int n) = true
is_number _ = false

abbrev pub is_string : Val → Bool
is_string (text s) = true
is_string (safe_text s) = true
is_string _ = false

abbrev pub is_bytes : Val → Bool
is_bytes (bytes s) = true
is_bytes _ = false

abbrev pub is_sequence : Val → Bool
is_sequence (list vs) = true
is_sequence (tuple vs) = true
is_sequence (text s) = true
is_sequence (safe_text s) = true
is_sequence _ = false

abbrev pub is_mapping : Val → Bool
is_mapping (map ps) = true
is_mapping (keyword_map ps) = true
is_mapping («module» ps s) = true
is_mapping (namespace e n) = true
is_mapping _ = false

-- what a loop goes over, but none and undefined
abbrev pub is_iterable : Val → Bool
is_iterable (list vs) = true
is_iterable (tuple vs) = true
is_iterable (text s) = true
is_iterable (safe_text s) = true
is_iterable (map ps) = true
is_iterable (keyword_map ps) = true
is_iterable («module» ps s) = true
is_iterable (namespace e n) = true
is_iterable _ = false

abbrev pub is_callable : Val → Bool
is_callable (function e n) = true
is_callable (loop_record e n) = true
is_callable (macro_record e n) = true
is_callable _ = false

-- the value is of the kind
abbrev pub is_of_kind : ValueKind → Val → Bool
is_of_kind kinds.Defined v = not (is_undefined v)
is_of_kind kinds.Undefined v = is_undefined v
is_of_kind kinds.None v = is_none v
is_of_kind kinds.Boolean v = is_boolean v
is_of_kind kinds.True v = is_true v
is_of_kind kinds.False v = is_false v
is_of_kind kinds.Number v = is_number v
is_of_kind kinds.Float v = false
is_of_kind kinds.String v = is_string v
is_of_kind kinds.Bytes v = is_bytes v
is_of_kind kinds.Sequence v = is_sequence v
is_of_kind kinds.Mapping v = is_mapping v
is_of_kind kinds.Iterable v = is_iterable v
is_of_kind kinds.Callable v = is_callable v
is_of_kind kinds.Safe v = is_safe v
