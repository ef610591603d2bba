use Rattle.std.proofs.Common.{sym, ◌∙◌, length, arith}
use Rattle.template_compiler_scanner.proofs.Names.{name_len_is}
use Rattle.template_compiler_scanner.proofs.bytes.name_len.Goals as goal

pub returns-then-not-is_name_part : goal.returns-then-not-is_name_part
returns-then-not-is_name_part c =
    name_len_is c.args.text.now c.loop-index.index (omega arith) c.loop-index.invariant
    (λ _. sym c.is_name_part.ensures ∙ c.if-not-is_name_part.true)

pub returns : goal.returns
returns c =
    name_len_is c.args.text.now (length c.args.text.now) (omega arith)
    (λ k h. c.loop-index.invariant k (omega arith)) (λ h. absurd (omega arith))
