-- The paths that an argument `attribute` names.
use Rattle.std.specs.Prelude.{ℕ, ◌==◌, List, [], ◌∷◌, map, Option, None, Some, Result, Ok, if◌then◌else◌}
use Rattle.std.specs.List.{slice_split}
use Rattle.template_values_errors.specs.declared.ErrorKind.{ErrorKind}
use Rattle.template_values_model.specs.Val.{Val, text}
use Rattle.template_values_core.specs.Answers.{text_in}
use Rattle.template_values_operators.specs.Kinds.{is_none}
use Rattle.template_builtins_arguments.specs.Answers.{refused}
use Rattle.template_builtins_paths.specs.Paths.{is_path}

-- a path, or none of it where there is no attribute
abbrev pub one_path : Option Val → Result (List Val) ErrorKind
one_path None = Ok []
one_path (Some v) = if is_none v then Ok [] else (if is_path v then Ok (v ∷ []) else refused)

-- what stands between the commas of a text
abbrev pub pieces_of : Val → Option (List ℕ) → List Val
pieces_of v (Some s) = map text (slice_split (λ b. b == 44) s)
pieces_of v None = v ∷ []

-- the same, of paths with commas between
abbrev pub several_paths : Option Val → Result (List Val) ErrorKind
several_paths None = Ok []
several_paths (Some v) = if is_none v then Ok [] else (if is_path v then Ok (pieces_of v (text_in v)) else refused)
