-- The keyword arguments of a call: the pairs of a keyword map.
use Rattle.std.specs.Prelude.{ℕ, List, Option, None, Some, unwrap_or, ok_or, is_some, Result, ◌≡◌, IsSome}
use Rattle.std.specs.BTreeSet.{BTreeSet, contains_text}
use Rattle.std.specs.Prelude.{String}
use Rattle.template_values_model.specs.Fault.{Fault, missing_argument}
use Rattle.template_values_model.specs.Val.{Val, Pairs, keyword_map, no_pairs}
use Rattle.template_values_model.specs.Lookup.{entry_at}

-- the keyword arguments that a value is: a keyword map's alone
abbrev pub keywords : Val → Option Pairs
keywords (keyword_map ps) = Some ps
keywords _ = None

-- the value of the argument of this name
abbrev pub argument : List ℕ → Pairs → Result Val Fault
argument name ps = ok_or (entry_at name ps) missing_argument

-- the set has the names under which there is an argument, and no others
abbrev pub HasJustNames : {A : Type 0} → Pairs → BTreeSet (String A) → Type 0
HasJustNames ps names = (name : List ℕ) → contains_text names name ≡ is_some (entry_at name ps)

-- the pairs of a keyword map
abbrev pub keyword_pairs : Val → Pairs
keyword_pairs v = unwrap_or (keywords v) no_pairs

abbrev pub IsKeywordMap : Val → Type 0
IsKeywordMap v = IsSome (keywords v)
