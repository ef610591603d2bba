-- What stands under names, and uses names.
use Rattle.std.specs.Prelude.{◌≡◌, ℕ, Bool, IsTrue, List, Some, String}
use Rattle.std.specs.BTreeMap.{BTreeMap, get_by_text}
use Rattle.std.specs.declared.alloc.Global.{Global}

-- one of those that stand uses the name
abbrev pub IsUsedByOne : {T : Type 0} → (T → List ℕ → Bool) → BTreeMap (String Global) T → List ℕ → Type 0
IsUsedByOne {T} uses standing name = (other : List ℕ) × (one : T) × (get_by_text standing other ≡ Some one) × IsTrue (uses one name)
