-- Why the values of the language give no answer. Want of memory and a failing writer are no faults: they
-- come to a program, and not to what it means.
use Rattle.template_values_errors.specs.declared.ErrorKind.{ErrorKind}
use Rattle.template_values_errors.specs.declared.ErrorKind.TheVariants.{InvalidOperation, BadSerialization, MissingArgument}

pub data Fault : Type 0 where
  -- an operator or a look-up at values that it does not take, or past a limit
  invalid_operation : Fault
  -- a value that has no JSON
  bad_serialization : Fault
  -- an argument that is needed was not given
  missing_argument : Fault

-- the kind of the error that a program refuses with
abbrev pub kind_of : Fault → ErrorKind
kind_of invalid_operation = InvalidOperation
kind_of bad_serialization = BadSerialization
kind_of missing_argument = MissingArgument
