-- The entries that the function `dict` makes a map of.
use Rattle.std.specs.Prelude.{List, Option, None, Some, Result, Ok, Err, Vec}
use Rattle.template_values_errors.specs.declared.ErrorKind.{ErrorKind}
use Rattle.template_values_errors.specs.declared.ErrorKind.TheVariants.{InvalidOperation}
use Rattle.template_values_model.specs.Val.{Val, keyword_map}
use Rattle.template_values_core.specs.Shape.{pairs_in}
use Rattle.template_values_core.specs.declared.value.Entry.{Entry}
use Rattle.template_machine_meaning.specs.Functions.{entries_of}

-- the entries of keyword arguments
abbrev pub named_in : Val → Option (List (Val × Val))
named_in (keyword_map ps) = Some (entries_of ps)
named_in _ = None

-- the entries of what may be a map's base; all else is refused
abbrev pub given_base : Option (List (Val × Val)) → Result (List (Val × Val)) ErrorKind
given_base (Some entries) = Ok entries
given_base None = Err InvalidOperation

-- the pairs of a call's vector
abbrev pub entries_given : {Z : Type 0} → Result (Vec Entry Z) (List ErrorKind) → Result (List (Val × Val)) (List ErrorKind)
entries_given (Ok vector) = Ok (pairs_in vector.items)
entries_given (Err kinds) = Err kinds
