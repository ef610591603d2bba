-- What an error's own calls tell of its kinds.
use Rattle.std.specs.Prelude.{◌≡◌, ◌<◌, length, List, [], ◌∷◌, Option, None, Some}
use Rattle.std.specs.Borrow.{Bor}
use Rattle.template_values_errors.specs.declared.ErrorKind.{ErrorKind}

-- the outermost kind
abbrev pub IsHead : List ErrorKind → ErrorKind → Type 0
IsHead kinds kind = (causes : List ErrorKind) × (kinds ≡ kind ∷ causes)

-- the kinds behind the outermost one, where there are any
abbrev pub IsCause : List ErrorKind → Option (Bor (List ErrorKind)) → Type 0
IsCause kinds None = (kind : ErrorKind) × (kinds ≡ kind ∷ [])
IsCause kinds (Some cause) = (kind : ErrorKind) × (kinds ≡ kind ∷ cause.now)

-- the same, and a cause has a kind
abbrev pub IsKindedCause : List ErrorKind → Option (Bor (List ErrorKind)) → Type 0
IsKindedCause kinds None = (kind : ErrorKind) × (kinds ≡ kind ∷ [])
IsKindedCause kinds (Some cause) = (kind : ErrorKind) × (kinds ≡ kind ∷ cause.now) × (0 < length cause.now)
