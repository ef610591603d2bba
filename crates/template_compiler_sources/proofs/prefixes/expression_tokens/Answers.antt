use Rattle.template_compiler_sources.proofs.Spelling.{one_spelled}
use Rattle.template_compiler_sources.proofs.prefixes.expression_tokens.Goals as goal

pub returns-in-Ok : goal.returns-in-Ok
returns-in-Ok c = λ ts spelled. one_spelled c.args.source.now ts c.in-Ok.tokens.left spelled c.in-Ok.ensures.tokens.tokens
