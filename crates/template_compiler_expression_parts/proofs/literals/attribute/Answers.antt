use Rattle.template_compiler_grammar.specs.Views.{node_of}
use Rattle.template_compiler_expression_parts.proofs.Rounds.{dot_at, dot_named}
use Rattle.template_compiler_expression_parts.proofs.literals.attribute.Goals as goal

pub returns-in-Token-clause-parsed : goal.returns-in-Token-clause-parsed
returns-in-Token-clause-parsed c =
    dot_at _ _ _ _ _ _ _ _ _ _ c.in-Token.ensures.taken c.in-Token.ensures.span c.in-Token.ensures.spans c.expand_span-in-Token.ensures (c.attribute_from.ensures _)

pub returns-in-Some-clause-parsed : goal.returns-in-Some-clause-parsed
returns-in-Some-clause-parsed c =
    dot_named _ _ c.args.span _ (node_of c.args.value) _ _ _ _ c.in-Some.ensures c.advance.ensures.passed c.advance.ensures.spans
    c.expand_span.ensures c.in_ok-attribute.ensures.tree c.in_ok-attribute.ensures.places
