use Rattle.template_compiler_expression_parts.specs.Parsed.{literal_at}
use Rattle.template_compiler_expression_parts.proofs.literals.literal_from.Goals as goal

pub returns-in-Ident-clause-parsed : goal.returns-in-Ident-clause-parsed
unfolding literal_at
returns-in-Ident-clause-parsed c = rw c.in-Ident.is (c.named.ensures c.args.tokens.now.left)
