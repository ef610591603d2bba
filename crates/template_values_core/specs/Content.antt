-- The value that a content stands for.
use Rattle.template_values_model.specs.Val.{Val, undefined, silent_undefined, none, truth, int, text, safe_text, bytes, list, tuple, map, keyword_map, «module», function, namespace, loop_record, macro_record, vals_of}
use Rattle.template_values_core.specs.Maps.{pairs_of}
use Rattle.template_values_core.specs.Shape.{pairs_in}
use Rattle.template_values_core.specs.declared.content.Content.{Content}
use Rattle.template_values_core.specs.declared.content.Content.TheVariants.{Undefined, SilentUndefined, None, Truth, Int, Text, SafeText, Bytes, List as Listed, Tuple, Map, KeywordMap, Module, Function, Namespace, Loop, Macro}

abbrev pub value_of : Content → Val
value_of Undefined = undefined
value_of SilentUndefined = silent_undefined
value_of None = none
value_of (Truth b) = truth b
value_of (Int n) = int n
value_of (Text s) = text s.now
value_of (SafeText s) = safe_text s.now
value_of (Bytes s) = bytes s.now
value_of (Listed vs) = list (vals_of vs.now)
value_of (Tuple vs) = tuple (vals_of vs.now)
value_of (Map es) = map (pairs_of (pairs_in es.now))
value_of (KeywordMap es) = keyword_map (pairs_of (pairs_in es.now))
value_of (Module es s) = «module» (pairs_of (pairs_in es.now)) s.now
value_of (Function e n) = function e n
value_of (Namespace e n) = namespace e n
value_of (Loop e n) = loop_record e n
value_of (Macro e n) = macro_record e n
