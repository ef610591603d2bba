-- A value's parts are less deep than the value.
use Rattle.std.specs.Prelude.{◌+◌, ◌≤◌, max, List, [], ◌∷◌}
use Rattle.std.proofs.Common.{arith}
use denote.Param.Weighed.{most}
use Rattle.template_values_model.specs.Val.{Val, vals_of}
use Rattle.template_values_core.specs.Depth.{depth, vals_depth, pairs_depth}
use Rattle.template_values_core.specs.Maps.{pairs_of}
use Rattle.template_values_core.specs.Shape.{pairs_in, repr_view}
use Rattle.template_values_core.specs.declared.value.Entry.{Entry}
use Rattle.template_values_core.specs.declared.value.Repr.{Repr}
use Rattle.template_values_core.specs.declared.value.Repr.TheVariants.{Undefined, SilentUndefined, None, Truth, Int, Text, SafeText, Bytes, List as Listed, Tuple, Map, KeywordMap, Module, Function, Namespace, Loop, Macro}
use Rattle.template_values_core.specs.declared.value.Value.TheDeep.{deep-Repr, deep-Entry}

pub most_le_vals : (vs : List Val) → most (λ v. depth v + 1) vs ≤ vals_depth (vals_of vs) + 1
most_le_vals [] = omega arith
most_le_vals (v ∷ vs) = omega (arith, most_le_vals vs)

pub most_le_pairs : (es : List Entry) → most deep-Entry es ≤ pairs_depth (pairs_of (pairs_in es)) + 1
most_le_pairs [] = omega arith
most_le_pairs (e ∷ es) = omega (arith, most_le_pairs es)

pub repr_falls : (r : Repr) → max (deep-Repr r) 0 ≤ depth (repr_view r)
repr_falls Undefined = omega arith
repr_falls SilentUndefined = omega arith
repr_falls None = omega arith
repr_falls (Truth b) = omega arith
repr_falls (Int n) = omega arith
repr_falls (Text s) = omega arith
repr_falls (SafeText s) = omega arith
repr_falls (Bytes s) = omega arith
repr_falls (Listed v) = omega (arith, most_le_vals v.value.items)
repr_falls (Tuple v) = omega (arith, most_le_vals v.value.items)
repr_falls (Map v) = omega (arith, most_le_pairs v.value.items)
repr_falls (KeywordMap v) = omega (arith, most_le_pairs v.value.items)
repr_falls (Module v s) = omega (arith, most_le_pairs v.value.items)
repr_falls (Function e n) = omega arith
repr_falls (Namespace e n) = omega arith
repr_falls (Loop e n) = omega arith
repr_falls (Macro e n) = omega arith
