-- What every representation keeps: the keys of its pairs rise in the order of values.
use Rattle.std.specs.Prelude.{◌≡◌, List}
use Rattle.std.specs.Map.{keys_of}
use Rattle.std.specs.List.Sorted.{IsStrictlySortedBy}
use Rattle.template_values_core.specs.Order.{val_cmp}
use Rattle.template_values_core.specs.Shape.{pairs_in, repr_view}
use Rattle.template_values_core.specs.declared.value.Entry.{Entry}
use Rattle.template_values_core.specs.declared.value.Repr.{Repr}
use Rattle.template_values_core.specs.declared.value.Repr.TheVariants.{Map, KeywordMap, Module}

abbrev pub IsRising : List Entry → Type 0
IsRising es = IsStrictlySortedBy val_cmp (keys_of (pairs_in es))

abbrev pub IsKept : Repr → Type 0
IsKept (Map v) = IsRising v.value.items
IsKept (KeywordMap v) = IsRising v.value.items
IsKept (Module v s) = IsRising v.value.items
IsKept _ = Unit {0}

-- the representation stands for the same value, and keeps what it kept
abbrev pub IsShared : Repr → Repr → Type 0
IsShared r s = (repr_view s ≡ repr_view r) × (IsKept r → IsKept s)
