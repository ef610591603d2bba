-- Texts one behind the other.
use Rattle.std.specs.Prelude.{ℕ, List, ◌++◌, Result, Ok, Err}
use Rattle.template_values_errors.specs.declared.ErrorKind.{ErrorKind}

-- a text and one behind it; of refusals the first
abbrev pub followed : Result (List ℕ) ErrorKind → Result (List ℕ) ErrorKind → Result (List ℕ) ErrorKind
followed (Ok s) (Ok t) = Ok (s ++ t)
followed (Ok s) (Err kind) = Err kind
followed (Err kind) _ = Err kind

-- a text between two others
abbrev pub enclosed : List ℕ → Result (List ℕ) ErrorKind → List ℕ → Result (List ℕ) ErrorKind
enclosed before (Ok s) behind = Ok (before ++ (s ++ behind))
enclosed before (Err kind) behind = Err kind
