-- The operators on numbers alone, where truth values count as 0 and 1; all other values are refused.
use Rattle.std.specs.Prelude.{ℤ, Option, None, Some, Result, Ok, Err}
use Rattle.template_values_model.specs.Fault.{Fault, invalid_operation}
use Rattle.template_values_model.specs.Val.{Val, int}
use Rattle.template_values_core.specs.Reads.{number_of, whole_number}
use Rattle.template_values_operators.specs.Numbers.{difference, quotient, remainder, power, negation}

-- the number, or invalid_operation where there is none
abbrev pub number_or_refusal : Option ℤ → Result Val Fault
number_or_refusal None = Err invalid_operation
number_or_refusal (Some n) = Ok (int n)

-- an operation on two numbers
abbrev pub on_both : (ℤ → ℤ → Option ℤ) → Option ℤ → Option ℤ → Option ℤ
on_both operation (Some m) (Some n) = operation m n
on_both operation _ _ = None

abbrev pub on_numbers : (ℤ → ℤ → Option ℤ) → Val → Val → Result Val Fault
on_numbers operation left right = number_or_refusal (on_both operation (number_of left) (number_of right))

abbrev pub difference_of : Val → Val → Result Val Fault
difference_of = on_numbers difference

abbrev pub quotient_of : Val → Val → Result Val Fault
quotient_of = on_numbers quotient

abbrev pub remainder_of : Val → Val → Result Val Fault
remainder_of = on_numbers remainder

abbrev pub power_of : Val → Val → Result Val Fault
power_of = on_numbers power

-- of a whole number; truth values have no negation
abbrev pub on_whole_number : (ℤ → Option ℤ) → Option ℤ → Option ℤ
on_whole_number operation (Some n) = operation n
on_whole_number operation None = None

abbrev pub negation_of : Val → Result Val Fault
negation_of value = number_or_refusal (on_whole_number negation (whole_number value))
