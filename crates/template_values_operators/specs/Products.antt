-- `*`: numbers multiply; with a number from 0 on, on either side, a text or a list repeats; all else is refused.
use Rattle.std.specs.Prelude.{ℕ, zero, suc, ℤ, pos, negsuc, ◌*◌, nat_le, if◌then◌else◌, List, [], ◌++◌, length, Option, None, Some, Result, Ok, Err}
use Rattle.template_values_model.specs.Fault.{Fault, invalid_operation}
use Rattle.template_values_model.specs.declared.TheConstants.{REPEATED_TEXT_LIMIT, REPEATED_LIST_LIMIT}
use Rattle.template_values_model.specs.Val.{Val, text}
use Rattle.template_values_core.specs.Answers.{text_in}
use Rattle.template_values_core.specs.Reads.{number_of}
use Rattle.template_values_operators.specs.Kinds.{list_of, list_made}
use Rattle.template_values_operators.specs.Numbers.{product}
use Rattle.template_values_operators.specs.Arithmetic.{number_or_refusal}

-- a list, n times over
abbrev pub repeated : {X : Type 0} → ℕ → List X → List X
repeated zero xs = []
repeated (suc n) xs = repeated n xs ++ xs

-- a number from 0 on counts the repeats
abbrev pub count_of : ℤ → Option ℕ
count_of (pos n) = Some n
count_of (negsuc n) = None

-- a plain text within the limit
abbrev pub text_repeated : ℕ → List ℕ → Result Val Fault
text_repeated n s = if nat_le (n * length s) REPEATED_TEXT_LIMIT then Ok (text (repeated n s)) else Err invalid_operation

-- a list within the limit
abbrev pub list_repeated : ℕ → List Val → Result Val Fault
list_repeated n vs = if nat_le (n * length vs) REPEATED_LIST_LIMIT then list_made (repeated n vs) else Err invalid_operation

-- by the count, and by the text or the items that repeat
abbrev pub repetition_by : Option ℕ → Option (List ℕ) → Option (List Val) → Result Val Fault
repetition_by (Some n) (Some s) _ = text_repeated n s
repetition_by (Some n) None (Some vs) = list_repeated n vs
repetition_by _ _ _ = Err invalid_operation

abbrev pub repetition_of : ℤ → Val → Result Val Fault
repetition_of n value = repetition_by (count_of n) (text_in value) (list_of value)

-- by the numbers that the operands are
abbrev pub product_by : Option ℤ → Option ℤ → Val → Val → Result Val Fault
product_by (Some m) (Some n) left right = number_or_refusal (product m n)
product_by (Some n) None left right = repetition_of n right
product_by None (Some n) left right = repetition_of n left
product_by None None left right = Err invalid_operation

abbrev pub product_of : Val → Val → Result Val Fault
product_of left right = product_by (number_of left) (number_of right) left right
