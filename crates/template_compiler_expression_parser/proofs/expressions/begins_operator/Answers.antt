use Rattle.std.proofs.Common.{sym, ◌∙◌}
use Rattle.template_compiler_expression_parser.proofs.expressions.begins_operator.Goals as goal

pub returns : goal.returns
returns c =
    λ h. (c.begins_filter.ensures c.if-begins_filter.false, c.begins_link.ensures h, sym c.begins_sum.ensures ∙ c.if-begins_sum.false)
