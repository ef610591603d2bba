-- `~`.
use Rattle.std.specs.Prelude.{Result}
use Rattle.template_values_model.specs.Fault.{Fault}
use Rattle.template_values_model.specs.Val.{Val, text}
use Rattle.template_values_forms.specs.Answers.{joined, mapped}
use Rattle.template_values_forms.specs.Known.{Known}
use Rattle.template_values_forms.specs.Printed.{printed}

-- the plain text of both printed forms, one behind the other
abbrev pub concatenation_of : Known → Val → Val → Result Val Fault
concatenation_of known left right = mapped text (joined (printed known left) (printed known right))
