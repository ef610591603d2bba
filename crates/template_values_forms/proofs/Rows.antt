-- Worked rows of values that are frozen, computed.
use Rattle.std.proofs.Common.{◌≡◌, ℕ, zero, suc, pos, List, [], ◌∷◌, Option, None, Some, Result, Ok, Err, codes, refl}
use Rattle.std.specs.Prelude.{◌==◌, if◌then◌else◌}
use Rattle.template_values_model.specs.Fault.{Fault, invalid_operation}
use Rattle.template_values_model.specs.Val.{Val, Pairs, none, int, text, list, tuple, map, keyword_map, «module», function, namespace, loop_record, macro_record, vals_of}
use Rattle.template_values_core.specs.Maps.{pairs_of}
use Rattle.template_values_forms.specs.Answers.{mapped}
use Rattle.template_values_forms.specs.Known.{Known}
use Rattle.template_values_forms.specs.Printed as printed_forms
use Rattle.template_values_forms.specs.Frozen.{both, frozen, inner_frozen, map_holding, one_more}

abbrev number : ℕ → Val
number n = int (pos n)

abbrev items : List Val → Val
items vs = list (vals_of vs)

abbrev pairs : List (Val × Val) → Val
pairs ps = map (pairs_of ps)

abbrev named : List ℕ → Val → List (Val × Val)
named name v = (text name, v) ∷ []

abbrev only : List ℕ → Val → Pairs
only name v = pairs_of (named name v)

-- the namespaces of the state 7: the first holds 1, the second the first, and the third itself
abbrev first : Val
first = namespace 7 0

abbrev second : Val
second = namespace 7 1

abbrev third : Val
third = namespace 7 2

abbrev held : ℕ → Option (List (Val × Val))
held place =
    if place == 0 then Some (named (codes "a") (number 1))
    else (if place == 1 then Some (named (codes "b") first)
    else (if place == 2 then Some (named (codes "c") third) else None))

abbrev state : Known
state = record {
  namespaces = λ id place. if id == 7 then held place else None;
  loops = λ id place. None;
  macros = λ id place. None;
}

-- what the first is
abbrev frozen_first : Val
frozen_first = pairs (named (codes "a") (number 1))

-- what holds nothing stays, also other records, foreign or not
text_row : frozen state (text (codes "x")) ≡ Ok (text (codes "x"))
unfolding printed_forms.level_limit
text_row = refl

records_row : frozen state (items (function 3 0 ∷ loop_record 8 0 ∷ macro_record 7 0 ∷ none ∷ []))
    ≡ Ok (items (function 3 0 ∷ loop_record 8 0 ∷ macro_record 7 0 ∷ none ∷ []))
unfolding printed_forms.level_limit
records_row = refl

-- a namespace is the map of what it holds, and so on in it
namespace_row : frozen state (items (number 5 ∷ second ∷ [])) ≡ Ok (items (number 5 ∷ pairs (named (codes "b") frozen_first) ∷ []))
unfolding printed_forms.level_limit
namespace_row = refl

-- containers stay of their kind
kinds_row : frozen state (tuple (vals_of (keyword_map (only (codes "k") first) ∷ «module» (only (codes "m") first) (codes "t") ∷ [])))
    ≡ Ok (tuple (vals_of (keyword_map (only (codes "k") frozen_first) ∷ «module» (only (codes "m") frozen_first) (codes "t") ∷ [])))
unfolding printed_forms.level_limit
kinds_row = refl

-- of keys that become equal the first stays, with the last value
equal_keys_row : frozen state (pairs ((frozen_first, number 1) ∷ (first, number 2) ∷ [])) ≡ Ok (pairs ((frozen_first, number 2) ∷ []))
unfolding printed_forms.level_limit
equal_keys_row = refl

-- a foreign namespace is refused
foreign_row : frozen state (items (first ∷ namespace 8 0 ∷ [])) ≡ Err invalid_operation
unfolding printed_forms.level_limit
foreign_row = refl

unknown_row : frozen state (namespace 7 3) ≡ Err invalid_operation
unfolding printed_forms.level_limit
unknown_row = refl

-- so is a value that nests deeper than it may, with the namespaces in it
within_row : inner_frozen state 2 (items (items [] ∷ [])) ≡ Ok (items (items [] ∷ []))
within_row = refl

deeper_row : inner_frozen state 1 (items (items [] ∷ [])) ≡ Err invalid_operation
deeper_row = refl

followed_row : inner_frozen state 1 second ≡ Err invalid_operation
followed_row = refl

-- and a namespace that holds itself, however deep values may nest
third_holds : (k v : Result Val Fault) → k ≡ Ok (text (codes "c")) → v ≡ Err invalid_operation
    → mapped map_holding (one_more (both k v) (Ok [])) ≡ Err invalid_operation
third_holds k v key value = rw (key, value) refl

key_stays : (n : ℕ) → inner_frozen state n (text (codes "c")) ≡ Ok (text (codes "c"))
key_stays zero = refl
key_stays (suc n) = refl

never_frozen : (n : ℕ) → inner_frozen state n third ≡ Err invalid_operation
never_frozen zero = refl
never_frozen (suc n) = third_holds (inner_frozen state n (text (codes "c"))) (inner_frozen state n third) (key_stays n) (never_frozen n)
