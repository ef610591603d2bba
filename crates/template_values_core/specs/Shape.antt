-- The value that a representation stands for.
use Rattle.std.specs.Prelude.{List, [], ◌∷◌}
use Rattle.std.specs.Rc.{rc_str_bytes}
use Rattle.std.specs.String.{string_bytes}
use Rattle.template_values_model.specs.Val.{Val, undefined, silent_undefined, none, truth, int, text, safe_text, bytes, list, tuple, map, keyword_map, «module», function, namespace, loop_record, macro_record, vals_of}
use Rattle.template_values_core.specs.Maps.{pairs_of}
use Rattle.template_values_core.specs.declared.value.Entry.{Entry}
use Rattle.template_values_core.specs.declared.value.Repr.{Repr}
use Rattle.template_values_core.specs.declared.value.Repr.TheVariants.{Undefined, SilentUndefined, None, Truth, Int, Text, SafeText, Bytes, List as Listed, Tuple, Map, KeywordMap, Module, Function, Namespace, Loop, Macro}

-- the pairs that entries hold
abbrev pub pairs_in : List Entry → List (Val × Val)
pairs_in [] = []
pairs_in (e ∷ es) = (e.key, e.value) ∷ pairs_in es

abbrev pub repr_view : Repr → Val
repr_view Undefined = undefined
repr_view SilentUndefined = silent_undefined
repr_view None = none
repr_view (Truth b) = truth b
repr_view (Int n) = int n
repr_view (Text s) = text (string_bytes s.value)
repr_view (SafeText s) = safe_text (string_bytes s.value)
repr_view (Bytes s) = bytes s.value.items
repr_view (Listed v) = list (vals_of v.value.items)
repr_view (Tuple v) = tuple (vals_of v.value.items)
repr_view (Map v) = map (pairs_of (pairs_in v.value.items))
repr_view (KeywordMap v) = keyword_map (pairs_of (pairs_in v.value.items))
repr_view (Module v s) = «module» (pairs_of (pairs_in v.value.items)) (rc_str_bytes s)
repr_view (Function e n) = function e n
repr_view (Namespace e n) = namespace e n
repr_view (Loop e n) = loop_record e n
repr_view (Macro e n) = macro_record e n
