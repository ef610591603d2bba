-- What the methods of lists and tuples make.
use Rattle.std.specs.Prelude.{ℕ, pos, count_by, position, List, Result, Ok}
use Rattle.std.specs.Ordering.{eq_by_cmp}
use Rattle.template_values_errors.specs.declared.ErrorKind.{ErrorKind}
use Rattle.template_values_model.specs.Val.{Val, int}
use Rattle.template_values_core.specs.Order.{val_cmp}
use Rattle.template_values_core.specs.Reads.{items_in}
use Rattle.template_callables.specs.Callables.{View}
use Rattle.template_builtins_arguments.specs.Answers.{Made, then}
use Rattle.template_builtins_methods.specs.Placed.{or_refused, the_argument}
use Rattle.template_builtins_methods.specs.declared.lists.ListMethod.{ListMethod}
use Rattle.template_builtins_methods.specs.declared.lists.ListMethod.TheVariants as methods

-- a number of things as a value
abbrev pub number : ℕ → Val
number n = int (pos n)

-- how many items are equal to a value
abbrev pub occurrences : Val → List Val → ℕ
occurrences sought items = count_by (λ item. eq_by_cmp val_cmp item sought) items

-- the place of the first item that is equal to it; there has to be one
abbrev pub place_of : Val → List Val → Result ℕ ErrorKind
place_of sought items = or_refused (position (λ item. eq_by_cmp val_cmp item sought) items)

unfoldable pub counted : Val → List Val → Made
counted v vs =
    then (the_argument vs) (λ sought.
    then (or_refused (items_in v)) (λ items.
    Ok (number (occurrences sought items))))

unfoldable pub indexed : Val → List Val → Made
indexed v vs =
    then (the_argument vs) (λ sought.
    then (or_refused (items_in v)) (λ items.
    then (place_of sought items) (λ n. Ok (number n))))

abbrev pub list_called : ListMethod → View → Val → List Val → Made
list_called methods.Count view v vs = counted v vs
list_called methods.Index view v vs = indexed v vs
