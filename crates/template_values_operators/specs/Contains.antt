-- `in`: what a value contains.
use Rattle.std.specs.Prelude.{ℕ, Bool, true, false, ◌||◌, nat_eq, List, [], ◌∷◌, Option, None, Some, is_some, Result, Ok, Err}
use Rattle.std.specs.List.{starts_with, list_any}
use Rattle.std.specs.Ordering.{eq_by_cmp}
use Rattle.template_values_model.specs.Fault.{Fault, invalid_operation}
use Rattle.template_values_model.specs.Val.{Val, Pairs, namespace}
use Rattle.template_values_core.specs.Answers.{text_in}
use Rattle.template_values_core.specs.Maps.{pairs_of, entry_under}
use Rattle.template_values_core.specs.Reads.{items_in, pairs_held, value_under}
use Rattle.template_values_forms.specs.Known.{Known}
use Rattle.template_values_operators.specs.Kinds.{is_undefined}
use Rattle.template_values_core.specs.Order.{val_cmp}

-- the part stands somewhere in the text
abbrev pub has_part : List ℕ → List ℕ → Bool
has_part [] part = starts_with nat_eq [] part
has_part (b ∷ bs) part = starts_with nat_eq (b ∷ bs) part || has_part bs part

-- a text contains texts alone
abbrev pub text_contains : List ℕ → Option (List ℕ) → Bool
text_contains s (Some part) = has_part s part
text_contains s None = false

-- by the items, the text and the pairs of the container; nothing is in an undefined value; all else is refused
abbrev pub contained_by : Option (List Val) → Option (List ℕ) → Option Pairs → Bool → Val → Val → Result Bool Fault
contained_by (Some vs) _ _ _ container value = Ok (list_any (λ item. eq_by_cmp val_cmp item value) vs)
contained_by None (Some s) _ _ container value = Ok (text_contains s (text_in value))
contained_by None None (Some _) _ container value = Ok (is_some (value_under value container))
contained_by None None None true container value = Ok false
contained_by None None None false container value = Err invalid_operation

-- in a container that is no record
abbrev pub held_in : Val → Val → Result Bool Fault
held_in container value =
    contained_by (items_in container) (text_in container) (pairs_held container) (is_undefined container) container value

-- whether a namespace has something under the key; a foreign one is refused
abbrev pub namespace_contains : Val → Option (List (Val × Val)) → Result Bool Fault
namespace_contains key None = Err invalid_operation
namespace_contains key (Some ps) = Ok (is_some (entry_under key (pairs_of ps)))

abbrev pub contained : Known → Val → Val → Result Bool Fault
contained known (namespace id number) value = namespace_contains value (known.namespaces id number)
contained known container value = held_in container value
