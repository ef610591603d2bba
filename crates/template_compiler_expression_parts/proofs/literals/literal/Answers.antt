use Rattle.template_compiler_expression_parts.proofs.Words.{word_first}
use Rattle.template_compiler_expression_parts.proofs.literals.literal.Goals as goal

pub returns-in-Some-clause-parsed : goal.returns-in-Some-clause-parsed
returns-in-Some-clause-parsed c =
    word_first _ _ _ _ _ _ c.in-Some.ensures c.span-span.ensures c.advance.ensures.passed (c.named.ensures _)
