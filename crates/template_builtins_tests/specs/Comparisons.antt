-- Comparisons of two values, as by the language's operators.
use Rattle.std.specs.Prelude.{Bool, not, Result, Ok}
use Rattle.std.specs.Ordering.{eq_by_cmp, is_lt, is_le, is_gt, is_ge}
use Rattle.template_values_errors.specs.declared.ErrorKind.{ErrorKind}
use Rattle.template_values_model.specs.Val.{Val}
use Rattle.template_values_core.specs.Order.{val_cmp}
use Rattle.template_values_forms.specs.Known.{nothing_known}
use Rattle.template_values_operators.specs.Contains.{contained}
use Rattle.template_callables.specs.Callables.{View}
use Rattle.template_builtins_arguments.specs.Answers.{told}
use Rattle.template_builtins_arguments.specs.Parts.{is_half_strict, is_strict, unless_forbidden}
use Rattle.template_builtins_tests.specs.declared.comparisons.Comparison.{Comparison}
use Rattle.template_builtins_tests.specs.declared.comparisons.Comparison.TheVariants as comparisons

-- the comparison holds in the one order of values
abbrev pub compares : Comparison → Val → Val → Bool
compares comparisons.Equal v w = eq_by_cmp val_cmp v w
compares comparisons.Unequal v w = not (eq_by_cmp val_cmp v w)
compares comparisons.Less v w = is_lt (val_cmp v w)
compares comparisons.LessOrEqual v w = is_le (val_cmp v w)
compares comparisons.Greater v w = is_gt (val_cmp v w)
compares comparisons.GreaterOrEqual v w = is_ge (val_cmp v w)

-- the same where undefined values may be compared
abbrev pub compared : Comparison → View → Val → Val → Result Bool ErrorKind
compared comparison view v w =
    unless_forbidden (is_strict view.undefined) v (unless_forbidden (is_strict view.undefined) w (Ok (compares comparison v w)))

-- the value is in the container, where undefined values may be sought and gone over
abbrev pub found_in : View → Val → Val → Result Bool ErrorKind
found_in view v container =
    unless_forbidden (is_strict view.undefined) v
    (unless_forbidden (is_half_strict view.undefined) container (told (contained nothing_known container v)))
