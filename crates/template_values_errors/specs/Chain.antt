-- The kinds of an error's cause, outermost first; none where there is no cause.
use Rattle.std.specs.Prelude.{◌<◌, length, List, [], Option, None, Some}
use Rattle.std.specs.declared.boxed.Box.{Box}
use Rattle.template_values_errors.specs.declared.ErrorKind.{ErrorKind}
use Rattle.template_values_errors.specs.declared.Rest.{Rest}

abbrev pub cause_kinds : Option (List ErrorKind) → List ErrorKind
cause_kinds None = []
cause_kinds (Some cause) = cause

-- of what an error has beside its kind, the cause alone: contracts do not see places
abbrev pub kinds_of : {Z : Type 0} → Option (Box Rest Z) → List ErrorKind
kinds_of None = []
kinds_of (Some rest) = cause_kinds rest.value.cause

abbrev pub IsKinded : Option (List ErrorKind) → Type 0
IsKinded None = Unit {0}
IsKinded (Some cause) = 0 < length cause

-- a cause has a kind
abbrev pub HasKinds : {Z : Type 0} → Option (Box Rest Z) → Type 0
HasKinds None = Unit {0}
HasKinds (Some rest) = IsKinded rest.value.cause
