-- A value that is made nests no deeper than values may.
use Rattle.std.proofs.Common.{◌≤◌, List, Bool, Result, Ok, Err, IfErr, inl, inr, arith}
use Rattle.template_values_errors.specs.declared.ErrorKind.{ErrorKind}
use Rattle.template_values_model.specs.Val.{Val, map}
use Rattle.template_values_errors.specs.Memory.{NoMemory}
use Rattle.template_values_core.specs.Answers.{TooDeep}
use Rattle.template_values_core.specs.Depth.{depth}
use Rattle.template_values_core.specs.Maps.{collected}
use Rattle.template_values_core.specs.Shape.{pairs_in}
use Rattle.template_values_core.specs.declared.value.Entry.{Entry}
use Rattle.template_values_json.specs.Entries.{ArePlain}
use Rattle.template_values_json.proofs.Plain.{map_within}
use Rattle.template_values_json.specs.Leaves.{IsFloatRefusal}

abbrev pub Made : Type 0
Made = Result Val (List ErrorKind)

-- a value that nests within the bound is never too deep
pub never_deep : (v : Val) (made : Made) → depth v ≤ 500 → IfErr made (TooDeep v) → IfErr made NoMemory
never_deep v (Ok w) within refused = tt
never_deep v (Err kinds) within refused = elim refused [
  | inl memory ↦ memory
  | inr deep ↦ absurd (omega (arith, deep.1, within))
]

-- nor is one made of JSON
pub never_deeper : (floats : Bool) (v : Val) (made : Made) → depth v ≤ 500 → IfErr made (TooDeep v) → IfErr made (IsFloatRefusal floats)
never_deeper floats v (Ok w) within refused = tt
never_deeper floats v (Err kinds) within refused = inl (never_deep v (Err kinds) within refused)

pub only_memory : (es : List Entry) (made : Made) → ArePlain es → IfErr made (TooDeep (map (collected (pairs_in es)))) → IfErr made NoMemory
only_memory es made plain refused = never_deep (map (collected (pairs_in es))) made (map_within es plain) refused
