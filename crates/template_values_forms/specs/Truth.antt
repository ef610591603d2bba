-- Whether a value counts as true, namespaces by what they hold.
use Rattle.std.specs.Prelude.{Bool, List, Option, None, Some, Result, Ok, Err}
use Rattle.template_values_model.specs.Fault.{Fault, invalid_operation}
use Rattle.template_values_model.specs.Val.{Val, namespace}
use Rattle.template_values_core.specs.Maps.{pairs_of}
use Rattle.template_values_core.specs.Reads.{has_pairs, is_true}
use Rattle.template_values_forms.specs.Known.{Known}

abbrev pub namespace_truth : Option (List (Val × Val)) → Result Bool Fault
namespace_truth None = Err invalid_operation
namespace_truth (Some ps) = Ok (has_pairs (pairs_of ps))

abbrev pub truth_of : Known → Val → Result Bool Fault
truth_of known (namespace id number) = namespace_truth (known.namespaces id number)
truth_of known v = Ok (is_true v)
