-- What the definitions of values give, or what it is refused with.
use Rattle.std.specs.Prelude.{Bool, true, false, Result, Ok, Err}
use Rattle.template_values_errors.specs.declared.ErrorKind.{ErrorKind}
use Rattle.template_values_errors.specs.declared.ErrorKind.TheVariants.{UndefinedError}
use Rattle.template_values_model.specs.Fault.{Fault, kind_of}

-- a fault of values, by its kind
abbrev pub kinded : {X : Type 0} → Result X Fault → Result X ErrorKind
kinded (Ok x) = Ok x
kinded (Err fault) = Err (kind_of fault)

-- an undefined value that may not be used so comes before all else
abbrev pub guarded : {X : Type 0} → Bool → Result X ErrorKind → Result X ErrorKind
guarded true r = Err UndefinedError
guarded false r = r
