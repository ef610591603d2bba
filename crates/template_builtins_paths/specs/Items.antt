-- The parts of items.
use Rattle.std.specs.Prelude.{Bool, true, false, List, [], ◌∷◌, Option, None, Some, Result, Ok}
use Rattle.template_values_errors.specs.declared.ErrorKind.{ErrorKind}
use Rattle.template_values_model.specs.Val.{Val, none}
use Rattle.template_callables.specs.Callables.{View}
use Rattle.template_builtins_arguments.specs.Answers.{Made, then, refused}
use Rattle.template_builtins_paths.specs.Paths.{is_path, part_of}

-- what comes of each, in order
abbrev pub each : {X Y : Type 0} → (X → Result Y ErrorKind) → List X → Result (List Y) ErrorKind
each f [] = Ok []
each f (x ∷ xs) = then (f x) (λ y. then (each f xs) (λ ys. Ok (y ∷ ys)))

abbrev pub path_in : Bool → Val → Result (Option Val) ErrorKind
path_in true v = Ok (Some v)
path_in false v = refused

-- an argument that is a path, or none
abbrev pub path_from : Option Val → Result (Option Val) ErrorKind
path_from None = Ok None
path_from (Some none) = Ok None
path_from (Some v) = path_in (is_path v) v

-- the part of a value at a path; without a path the value itself
unfoldable pub part_or_self : View → Option Val → Val → Made
part_or_self view None v = Ok v
part_or_self view (Some path) v = part_of view v path None

-- the same of each item
unfoldable pub parts_at : View → Option Val → List Val → Result (List Val) ErrorKind
parts_at view None items = Ok items
parts_at view (Some path) items = each (λ item. part_of view item path None) items
