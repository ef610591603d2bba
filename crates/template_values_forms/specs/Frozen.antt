-- A value as it is once it has left the state that made its namespaces: each is a map of what it holds.
use Rattle.std.specs.Prelude.{ℕ, zero, suc, Bool, true, false, ◌||◌, List, [], ◌∷◌, Option, None, Some, Result, Ok, Err}
use Rattle.template_values_model.specs.Fault.{Fault, invalid_operation}
use Rattle.template_values_model.specs.Val.{Val, Vals, Pairs, list, tuple, map, keyword_map, «module», namespace, vals_of, no_vals, vals_more, no_pairs, pairs_more}
use Rattle.template_values_core.specs.Maps.{collected, pairs_of}
use Rattle.template_values_forms.specs.Answers.{mapped}
use Rattle.template_values_forms.specs.Known.{Known}
use Rattle.template_values_forms.specs.Printed.{level_limit}

-- one more before the others; of refusals the first
abbrev pub one_more : {T : Type 0} → Result T Fault → Result (List T) Fault → Result (List T) Fault
one_more (Ok x) (Ok xs) = Ok (x ∷ xs)
one_more (Ok x) (Err fault) = Err fault
one_more (Err fault) _ = Err fault

abbrev pub frozen_vals : (Val → Result Val Fault) → Vals → Result (List Val) Fault
frozen_vals f no_vals = Ok []
frozen_vals f (vals_more v vs) = one_more (f v) (frozen_vals f vs)

-- a key with its value; of refusals the first
abbrev pub both : Result Val Fault → Result Val Fault → Result (Val × Val) Fault
both (Ok k) (Ok v) = Ok (k, v)
both (Ok k) (Err fault) = Err fault
both (Err fault) _ = Err fault

abbrev pub frozen_pairs : (Val → Result Val Fault) → Pairs → Result (List (Val × Val)) Fault
frozen_pairs f no_pairs = Ok []
frozen_pairs f (pairs_more k v ps) = one_more (both (f k) (f v)) (frozen_pairs f ps)

-- containers of frozen values
abbrev pub list_holding : List Val → Val
list_holding vs = list (vals_of vs)

abbrev pub tuple_holding : List Val → Val
tuple_holding vs = tuple (vals_of vs)

-- Frozen keys may be equal: of those the first stays, with the last value.
abbrev pub map_holding : List (Val × Val) → Val
map_holding ps = map (collected ps)

abbrev pub keyword_map_holding : List (Val × Val) → Val
keyword_map_holding ps = keyword_map (collected ps)

abbrev pub module_holding : List ℕ → List (Val × Val) → Val
module_holding s ps = «module» (collected ps) s

abbrev pub frozen_map : (Val → Result Val Fault) → Pairs → Result Val Fault
frozen_map f ps = mapped map_holding (frozen_pairs f ps)

abbrev pub frozen_namespace : (Val → Result Val Fault) → Option (List (Val × Val)) → Result Val Fault
frozen_namespace f None = Err invalid_operation
frozen_namespace f (Some ps) = frozen_map f (pairs_of ps)

-- where no value may nest further
abbrev pub flat_frozen : Val → Result Val Fault
flat_frozen (list vs) = Err invalid_operation
flat_frozen (tuple vs) = Err invalid_operation
flat_frozen (map ps) = Err invalid_operation
flat_frozen (keyword_map ps) = Err invalid_operation
flat_frozen («module» ps s) = Err invalid_operation
flat_frozen (namespace id number) = Err invalid_operation
flat_frozen v = Ok v

-- where `f` freezes what nests in a value
abbrev pub nested_frozen : Known → (Val → Result Val Fault) → Val → Result Val Fault
nested_frozen known f (list vs) = mapped list_holding (frozen_vals f vs)
nested_frozen known f (tuple vs) = mapped tuple_holding (frozen_vals f vs)
nested_frozen known f (map ps) = frozen_map f ps
nested_frozen known f (keyword_map ps) = mapped keyword_map_holding (frozen_pairs f ps)
nested_frozen known f («module» ps s) = mapped (module_holding s) (frozen_pairs f ps)
nested_frozen known f (namespace id number) = frozen_namespace f (known.namespaces id number)
nested_frozen known f v = flat_frozen v

-- where values may nest so many levels deep; namespaces are followed
abbrev pub inner_frozen : Known → ℕ → Val → Result Val Fault
inner_frozen known zero v = flat_frozen v
inner_frozen known (suc n) v = nested_frozen known (inner_frozen known n) v

abbrev pub frozen : Known → Val → Result Val Fault
frozen known v = inner_frozen known level_limit v

-- whether a namespace stands in a value
abbrev mutual
  pub holds_namespace : Val → Bool
  holds_namespace (list vs) = vals_hold_namespace vs
  holds_namespace (tuple vs) = vals_hold_namespace vs
  holds_namespace (map ps) = pairs_hold_namespace ps
  holds_namespace (keyword_map ps) = pairs_hold_namespace ps
  holds_namespace («module» ps s) = pairs_hold_namespace ps
  holds_namespace (namespace id number) = true
  holds_namespace _ = false

  pub vals_hold_namespace : Vals → Bool
  vals_hold_namespace no_vals = false
  vals_hold_namespace (vals_more v vs) = holds_namespace v || vals_hold_namespace vs

  pub pairs_hold_namespace : Pairs → Bool
  pairs_hold_namespace no_pairs = false
  pairs_hold_namespace (pairs_more k v ps) = holds_namespace k || (holds_namespace v || pairs_hold_namespace ps)
