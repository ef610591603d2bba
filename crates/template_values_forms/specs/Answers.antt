-- How a call answers that appends a text.
use Rattle.std.specs.Prelude.{◌≡◌, ℕ, List, [], ◌∷◌, ◌++◌, ◌⊎◌, Result, Ok, Err}
use Rattle.template_values_errors.specs.declared.ErrorKind.{ErrorKind}
use Rattle.template_values_model.specs.Fault.{Fault, kind_of}
use Rattle.template_values_errors.specs.Memory.{NoMemory}

-- the texts one behind the other; of refusals the first
abbrev pub joined : Result (List ℕ) Fault → Result (List ℕ) Fault → Result (List ℕ) Fault
joined (Ok s) (Ok t) = Ok (s ++ t)
joined (Ok s) (Err fault) = Err fault
joined (Err fault) _ = Err fault

-- the text is appended; or it is refused with the kind of a fault alone, or for want of memory, and nothing is appended
abbrev pub AppendsOrRefuses : List ℕ → Result (List ℕ) Fault → Result (Unit {0}) (List ErrorKind) → List ℕ → Type 0
AppendsOrRefuses before (Ok s) (Ok _) after = after ≡ before ++ s
AppendsOrRefuses before (Ok s) (Err kinds) after = NoMemory kinds × (after ≡ before)
AppendsOrRefuses before (Err fault) (Ok _) after = ⊥
AppendsOrRefuses before (Err fault) (Err kinds) after = ((kinds ≡ kind_of fault ∷ []) ⊎ NoMemory kinds) × (after ≡ before)

-- what is made of an answer, where there is one
abbrev pub mapped : {T U : Type 0} → (T → U) → Result T Fault → Result U Fault
mapped f (Ok x) = Ok (f x)
mapped f (Err fault) = Err fault
