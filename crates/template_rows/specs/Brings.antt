-- What is answered by what a case brings: temps that are set first, and then what is answered for itself.
use Rattle.std.specs.Prelude.{◌≡◌, ◌⊎◌, ℕ, pos, List, [], ◌∷◌, ◌++◌, Option, None, Some, Result, Ok, Err, String, string_bytes}
use Rattle.std.specs.Global.{Global, Vec}
use Rattle.template_values_errors.specs.declared.ErrorKind.{ErrorKind}
use Rattle.template_values_errors.specs.Memory.{NoMemory}
use Rattle.template_values_model.specs.Fault.{Fault, kind_of}
use Rattle.template_values_model.specs.Gives.{alone}
use Rattle.template_values_model.specs.Val as values
use Rattle.template_values_model.specs.Val.{Val, int}
use Rattle.template_values_named.specs.Named.{local_at, pairs_named}
use Rattle.template_values_operators.specs.Sums.{sum_of}
use Rattle.template_callables.specs.Callables.{View, Stated, finishes, refuses, goes_on}
use Rattle.template_rows.specs.Says.{what_says}
use Rattle.template_rows.specs.declared.brought.Brought.{Brought}

-- one more than the number, or 1 where there is none
abbrev pub one_more : Option Val → Result Val Fault
one_more (Some v) = sum_of v (int (pos 1))
one_more None = Ok (int (pos 1))

-- names with values, and a further name with a value, if that is no fault
abbrev pub with_last : List (List ℕ × Val) → List ℕ → Result Val Fault → Result (List (List ℕ × Val)) Fault
with_last temps name (Ok v) = Ok (temps ++ (name, v) ∷ [])
with_last temps name (Err fault) = Err fault

-- what is set among the temps first: what is said, and then the count
abbrev pub with_count : List (List ℕ × Val) → View → Option (String Global) → Result (List (List ℕ × Val)) Fault
with_count temps view (Some name) = with_last temps (string_bytes name) (one_more (local_at (string_bytes name) view.temps))
with_count temps view None = Ok temps

abbrev pub first_set : Brought → View → Result (List (List ℕ × Val)) Fault
first_set b view = with_count (pairs_named b.sets.items) view b.counts

-- these names with values, or the fault
abbrev pub SetsFirst : Result (List (List ℕ × Val)) Fault → Result (Vec (String Global × Val)) (List ErrorKind) → Type 0
SetsFirst stated (Ok temps) = stated ≡ Ok (pairs_named temps.items)
SetsFirst stated (Err kinds) = NoMemory kinds ⊎ (alone stated ≡ Err kinds)

-- an answer, behind temps
abbrev pub before : List (List ℕ × Val) → Stated → Stated
before temps (finishes more v) = finishes (temps ++ more) v
before temps (refuses kinds) = refuses kinds
before temps (goes_on more asked) = goes_on (temps ++ more) asked

abbrev pub set_before : Result (List (List ℕ × Val)) Fault → Stated → Stated
set_before (Ok temps) stated = before temps stated
set_before (Err fault) stated = refuses (kind_of fault ∷ [])

abbrev pub brought_says : Brought → View → List Val → Stated
brought_says b view vs = set_before (first_set b view) (what_says b.what view vs)

-- the value is the first argument, and the method's name is the second
abbrev pub methods_say : Brought → View → Val → List ℕ → List Val → Stated
methods_say b view v name vs = brought_says b view (v ∷ values.text name ∷ vs)
