-- `+`: numbers add up, two texts join to a plain text, lists and tuples join to a list; all else is refused.
use Rattle.std.specs.Prelude.{ℕ, ℤ, List, ◌++◌, Option, Some, Result, Ok, Err}
use Rattle.template_values_model.specs.Fault.{Fault, invalid_operation}
use Rattle.template_values_model.specs.Val.{Val, text}
use Rattle.template_values_core.specs.Answers.{text_in}
use Rattle.template_values_core.specs.Reads.{number_of, items_in}
use Rattle.template_values_operators.specs.Kinds.{list_made}
use Rattle.template_values_operators.specs.Numbers.{sum}
use Rattle.template_values_operators.specs.Arithmetic.{number_or_refusal}

-- by the numbers, the texts and the items that the operands are
abbrev pub sum_by : Option ℤ → Option ℤ → Option (List ℕ) → Option (List ℕ) → Option (List Val) → Option (List Val) → Result Val Fault
sum_by (Some m) (Some n) _ _ _ _ = number_or_refusal (sum m n)
sum_by _ _ (Some s) (Some t) _ _ = Ok (text (s ++ t))
sum_by _ _ _ _ (Some xs) (Some ys) = list_made (xs ++ ys)
sum_by _ _ _ _ _ _ = Err invalid_operation

abbrev pub sum_of : Val → Val → Result Val Fault
sum_of left right = sum_by (number_of left) (number_of right) (text_in left) (text_in right) (items_in left) (items_in right)
