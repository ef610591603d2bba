-- How a call answers beside the model: exactly, or with want of memory where it grows something.
use Rattle.std.specs.Prelude.{◌≡◌, List, [], ◌∷◌, Result, Ok, Err, MatchResult, IfErr, ◌⊎◌}
use Rattle.template_values_errors.specs.declared.ErrorKind.{ErrorKind}
use Rattle.template_values_errors.specs.Memory.{NoMemory}
use Rattle.template_values_model.specs.Fault.{Fault, kind_of}

-- the answer as a program gives it: a fault's kind stands alone
abbrev pub alone : {T : Type 0} → Result T Fault → Result T (List ErrorKind)
alone (Ok value) = Ok value
alone (Err fault) = Err (kind_of fault ∷ [])

-- the call gives exactly this answer, or no memory is left
abbrev pub Gives : {T : Type 0} → Result T (List ErrorKind) → Result T Fault → Type 0
Gives result answer = MatchResult result (λ value. answer ≡ Ok value) (λ kinds. NoMemory kinds ⊎ (alone answer ≡ Err kinds))

-- the call refuses with the kind of a fault alone wherever the answer is that fault, and never for want of
-- memory there
abbrev pub TellsFault : {T : Type 0} → Result T (List ErrorKind) → Result T Fault → Type 0
TellsFault result answer = IfErr answer (λ fault. result ≡ Err (kind_of fault ∷ []))
