use Rattle.std.proofs.Common.{ap, arith}
use Rattle.std.proofs.lemmas.Result.{IfOk-weaker}
use Rattle.serde_json.specs.View.{view}
use Rattle.template_values_core.specs.Depth.{depth}
use Rattle.template_values_json.proofs.Levels.{depth-value_of}
use Rattle.template_program_contexts.proofs.values.whole_value.Goals as goal

pub returns-clause-shallow : goal.returns-clause-shallow
returns-clause-shallow c =
    IfOk-weaker c.value_from.result _ _
    (λ v is. omega (arith, ap depth is, depth-value_of (view c.in_ok-json.json), c.in_ok-json.ensures.nests))
    c.value_from.ensures.is
