-- Numbers and decimals, rounded.
use Rattle.std.specs.Prelude.{ℕ, suc, ◌+◌, ◌-◌, ◌*◌, ◌/◌, ◌%◌, ◌^◌, ◌&&◌, ℤ, pos, negsuc, Bool, false, not, List, nat_le, nat_lt, unsigned_abs, int_le, bytes_eq, codes, if◌then◌else◌, Option, None, Some, option_map, Result, Ok}
use Rattle.std.specs.Int.{is_negative}
use Rattle.std.specs.Str.{trim}
use Rattle.template_values_errors.specs.declared.ErrorKind.{ErrorKind}
use Rattle.template_values_model.specs.Val.{Val, text}
use Rattle.template_values_core.specs.Answers.{text_in}
use Rattle.template_values_core.specs.Reads.{whole_number}
use Rattle.template_builtins_arguments.specs.Answers.{Made, refused}
use Rattle.template_builtins_numbers.specs.Decimals.{Decimal, decimal_of}
use Rattle.template_builtins_numbers.specs.Values.{number_made}
use Rattle.template_builtins_numbers.specs.Wholes.{signed}
use Rattle.template_builtins_decimals.specs.Fixed.{Fixed, fixed, fixed_text}
use Rattle.template_builtins_decimals.specs.declared.rounding.Method.{Method}
use Rattle.template_builtins_decimals.specs.declared.rounding.Method.TheVariants.{Common, Ceil, Floor}
use Rattle.template_builtins_decimals.specs.declared.rounding.TheConstants.{LEAST_PRECISION}

-- the least rest is rounded away from zero
abbrev pub goes_away : Method → Bool → Bool
goes_away Common negative = false
goes_away Ceil negative = not negative
goes_away Floor negative = negative

-- what is cut off below a unit counts as one more: from half a unit on, or wherever the method goes away from zero
abbrev pub adds_unit : Method → Bool → ℕ → ℕ → Bool
adds_unit Common negative rest unit = nat_le unit (rest * 2)
adds_unit Ceil negative rest unit = goes_away Ceil negative && nat_lt 0 rest
adds_unit Floor negative rest unit = goes_away Floor negative && nat_lt 0 rest

-- how many units a number is, without its sign
unfoldable pub units_in : Method → Bool → ℕ → ℕ → ℕ
units_in method negative n unit = n / unit + (if adds_unit method negative (n % unit) unit then 1 else 0)

-- a number to a power of ten
abbrev pub to_power : Method → ℕ → ℤ → Option ℤ
to_power method k z = signed (is_negative z) (units_in method (is_negative z) (unsigned_abs z) (10 ^ k) * 10 ^ k)

-- a number as it is, with a precision below 0 to that power of ten
abbrev pub rounded_number : Method → ℤ → ℤ → Option ℤ
rounded_number method (pos p) z = Some z
rounded_number method (negsuc p) z = to_power method (suc p) z

-- how many digits are cut off, where so many stand behind the point
abbrev pub digits_cut : ℤ → ℕ → ℕ
digits_cut (pos p) n = n - p
digits_cut (negsuc p) n = n + suc p

-- and how many zeros then stand in for digits before it
abbrev pub zeros_put : ℤ → ℕ
zeros_put (pos p) = 0
zeros_put (negsuc p) = suc p

-- a decimal to a number of digits behind the point
unfoldable pub rounded : Method → ℤ → Fixed → Fixed
rounded method precision x = record {
  negative = x.negative;
  units = units_in method x.negative x.units (10 ^ digits_cut precision x.places) * 10 ^ zeros_put precision;
  places = x.places - digits_cut precision x.places;
}

unfoldable pub rounded_text : Method → ℤ → Decimal → List ℕ
rounded_text method precision d = fixed_text (rounded method precision (fixed d))

-- the text of the decimal that a text writes, rounded to so many digits behind the point
abbrev pub rounded_decimal : ℕ → List ℕ → Option (List ℕ)
rounded_decimal places s = option_map (rounded_text Common (pos places)) (decimal_of (trim s))

-- no more zeros are put in than a width may have
abbrev pub decimal_rounded : Method → ℤ → Option Decimal → Made
decimal_rounded method precision None = refused
decimal_rounded method precision (Some d) =
    if int_le LEAST_PRECISION precision then Ok (text (rounded_text method precision d)) else refused

abbrev pub rounded_by : Method → ℤ → Option ℤ → Option (List ℕ) → Made
rounded_by method precision (Some z) s = number_made (rounded_number method precision z)
rounded_by method precision None (Some s) = decimal_rounded method precision (decimal_of (trim s))
rounded_by method precision None None = refused

-- of a number or a decimal
unfoldable pub rounded_value : Method → ℤ → Val → Made
rounded_value method precision v = rounded_by method precision (whole_number v) (text_in v)

abbrev pub method_called : List ℕ → Result Method ErrorKind
method_called word =
    if bytes_eq word (codes "common") then Ok Common
    else (if bytes_eq word (codes "ceil") then Ok Ceil else (if bytes_eq word (codes "floor") then Ok Floor else refused))

abbrev pub method_named : Option (List ℕ) → Result Method ErrorKind
method_named None = refused
method_named (Some word) = method_called word

abbrev pub method_from : Option Val → Result Method ErrorKind
method_from None = Ok Common
method_from (Some v) = method_named (text_in v)
