-- What the filters on decimals and sizes make of a value and the arguments after it.
use Rattle.std.specs.Prelude.{ℕ, ℤ, pos, false, List, [], ◌∷◌, Option, Ok, codes}
use Rattle.template_values_model.specs.Val.{Val, text}
use Rattle.template_callables.specs.Callables.{View}
use Rattle.template_builtins_arguments.specs.Answers.{Made, then}
use Rattle.template_builtins_arguments.specs.Arguments.{arguments, flag_from, number_from, whole}
use Rattle.template_builtins_decimals.specs.Rounding.{method_from, rounded_value}
use Rattle.template_builtins_decimals.specs.Sizes.{size_text}
use Rattle.template_builtins_decimals.specs.declared.filter.DecimalFilter.{DecimalFilter}
use Rattle.template_builtins_decimals.specs.declared.filter.DecimalFilter.TheVariants as filters

-- a number of bytes in units of 1000, or binary in those of 1024
abbrev pub size_by : View → (ℕ → Option Val) → ℤ → Made
size_by view given size = then (flag_from view (given 0) false) (λ binary. Ok (text (size_text binary size)))

-- a number of bytes in the greatest unit that it reaches
unfoldable pub file_size : View → Val → List Val → Made
file_size view v vs =
    then (arguments (codes "binary" ∷ []) 0 vs) (λ given.
    then (whole v) (λ size.
    size_by view given size))

abbrev pub round_by : Val → (ℕ → Option Val) → ℤ → Made
round_by v given precision = then (method_from (given 1)) (λ method. rounded_value method precision v)

-- a number or a decimal to a number of places, by a method
unfoldable pub round : Val → List Val → Made
round v vs =
    then (arguments (codes "precision" ∷ codes "method" ∷ []) 0 vs) (λ given.
    then (number_from (given 0) (pos 0)) (λ precision.
    round_by v given precision))

abbrev pub decimal_filtered : DecimalFilter → View → Val → List Val → Made
decimal_filtered filters.Round = λ view. round
decimal_filtered filters.FileSizeFormat = file_size
