use Rattle.std.proofs.Common.{subst}
use Rattle.std.specs.Str.{IsAscii}
use Rattle.template_compiler_tokens.proofs.Stretches.{plain_first}
use Rattle.template_compiler_tokens.proofs.stretch.plain_len.Goals as goal

pub returns-then-is_ascii-clause-plain : goal.returns-then-is_ascii-clause-plain
returns-then-is_ascii-clause-plain c =
    plain_first c.args.bytes.now c.line_len-len.result c.line_len-len.ensures.line
    (subst IsAscii c.beginning-line.ensures.bytes c.if-is_ascii.ensures.cases)
