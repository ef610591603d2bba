use Rattle.std.proofs.Common.{ap, arith}
use Rattle.std.proofs.lemmas.Result.{IfOk-weaker}
use Rattle.json.specs.Value.{value_view}
use Rattle.template_values_core.specs.Depth.{depth}
use Rattle.template_values_json.proofs.ContextLevels.{depth-spelled_value}
use Rattle.template_program_contexts.proofs.texts.spelled_value.Goals as goal

pub returns-clause-shallow : goal.returns-clause-shallow
returns-clause-shallow c =
    IfOk-weaker c.value_from.result _ _
    (λ v is. omega (arith, ap depth is, depth-spelled_value (value_view c.in_ok-tree.tree), c.in_ok-tree.ensures.nests))
    c.value_from.ensures.is
