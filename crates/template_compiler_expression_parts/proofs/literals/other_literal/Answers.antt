use Rattle.template_compiler_expression_parts.proofs.Words.{literal_first}
use Rattle.template_compiler_expression_parts.proofs.literals.other_literal.Goals as goal

pub returns-in-Token-clause-parsed : goal.returns-in-Token-clause-parsed
returns-in-Token-clause-parsed c =
    literal_first _ _ _ _ _ _ _ _ c.in-Token.ensures.taken c.in-Token.ensures.span c.in-Token.ensures.spans c.literal_from.ensures.parsed
