-- What the operators give for their operands.
use Rattle.std.specs.Prelude.{not, Result, Ok, Err}
use Rattle.std.specs.Ordering.{eq_by_cmp, is_lt, is_le, is_gt, is_ge}
use Rattle.template_values_model.specs.Fault.{Fault, invalid_operation}
use Rattle.template_values_model.specs.Val.{Val, truth}
use Rattle.template_values_core.specs.Order.{val_cmp}
use Rattle.template_values_forms.specs.Answers.{mapped}
use Rattle.template_values_forms.specs.Known.{Known}
use Rattle.template_values_forms.specs.Truth.{truth_of}
use Rattle.template_values_operators.specs.Arithmetic.{difference_of, quotient_of, remainder_of, power_of, negation_of}
use Rattle.template_values_operators.specs.Sums.{sum_of}
use Rattle.template_values_operators.specs.Products.{product_of}
use Rattle.template_values_operators.specs.Contains.{contained}
use Rattle.template_values_forms.specs.Concatenation.{concatenation_of}
use Rattle.template_compiler_tree.specs.declared.operators.BinOpKind.{BinOpKind}
use Rattle.template_compiler_tree.specs.declared.operators.BinOpKind.TheVariants.{Eq, Ne, Lt, Lte, Gt, Gte, ScAnd, ScOr, Add, Sub, Mul, Div, FloorDiv, Rem, Pow, Concat, In}
use Rattle.template_compiler_tree.specs.declared.operators.CompareOpKind.{CompareOpKind}
use Rattle.template_compiler_tree.specs.declared.operators.CompareOpKind.TheVariants as compares

-- the left side is in the right one
abbrev pub membership : Known → Val → Val → Result Val Fault
membership known left right = mapped truth (contained known right left)

-- `and` and `or` are no operators: what stands at their right may not run
abbrev pub operated : Known → BinOpKind → Val → Val → Result Val Fault
operated known Eq left right = Ok (truth (eq_by_cmp val_cmp left right))
operated known Ne left right = Ok (truth (not (eq_by_cmp val_cmp left right)))
operated known Lt left right = Ok (truth (is_lt (val_cmp left right)))
operated known Lte left right = Ok (truth (is_le (val_cmp left right)))
operated known Gt left right = Ok (truth (is_gt (val_cmp left right)))
operated known Gte left right = Ok (truth (is_ge (val_cmp left right)))
operated known ScAnd left right = Err invalid_operation
operated known ScOr left right = Err invalid_operation
operated known Add left right = sum_of left right
operated known Sub left right = difference_of left right
operated known Mul left right = product_of left right
operated known Div left right = Err invalid_operation
operated known FloorDiv left right = quotient_of left right
operated known Rem left right = remainder_of left right
operated known Pow left right = power_of left right
operated known Concat left right = concatenation_of known left right
operated known In left right = membership known left right

-- a comparison of a chain
abbrev pub compared : Known → CompareOpKind → Val → Val → Result Val Fault
compared known compares.Eq left right = operated known Eq left right
compared known compares.Ne left right = operated known Ne left right
compared known compares.Lt left right = operated known Lt left right
compared known compares.Lte left right = operated known Lte left right
compared known compares.Gt left right = operated known Gt left right
compared known compares.Gte left right = operated known Gte left right
compared known compares.In left right = membership known left right
compared known compares.NotIn left right = mapped (λ found. truth (not found)) (contained known right left)

-- `not`
abbrev pub inverted : Known → Val → Result Val Fault
inverted known v = mapped (λ holds. truth (not holds)) (truth_of known v)

-- minus
abbrev pub negated : Val → Result Val Fault
negated v = negation_of v
