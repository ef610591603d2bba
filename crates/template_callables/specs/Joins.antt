-- Names that are made of a name and of that of the template in which it stands.
use Rattle.std.specs.Prelude.{◌≡◌, ℕ, ◌⊎◌, List, Result, Ok, Err, MatchResult, String, string_bytes}
use Rattle.std.specs.Global.{Global}
use Rattle.template_values_errors.specs.declared.ErrorKind.{ErrorKind}
use Rattle.template_values_errors.specs.Memory.{NoMemory}

-- the name that is meant, of a name and of that of the template in which it stands; or a fault by its kinds
abbrev pub Joins : Type 0
Joins = List ℕ → List ℕ → Result (List ℕ) (List ErrorKind)

-- the name as it is, whatever the template
abbrev pub keeps_name : Joins
keeps_name name parent = Ok name

-- the answer is what is stated, or want of memory
abbrev pub IsJoined : Result (List ℕ) (List ErrorKind) → Result (String Global) (List ErrorKind) → Type 0
IsJoined stated result = MatchResult result (λ name. stated ≡ Ok (string_bytes name)) (λ kinds. NoMemory kinds ⊎ (stated ≡ Err kinds))
