use Rattle.std.proofs.Common.{length, arith}
use Rattle.template_compiler_scanner.proofs.Digits.{digits_len_is}
use Rattle.template_compiler_scanner.proofs.numbers.digits_len.Goals as goal

pub returns-then-not-goes_on-clause-len : goal.returns-then-not-goes_on-clause-len
returns-then-not-goes_on-clause-len c =
    digits_len_is c.args.base c.args.text.now c.loop-index.index (omega arith) c.loop-index.invariant
    (λ _. cc)

pub returns-clause-len : goal.returns-clause-len
returns-clause-len c =
    digits_len_is c.args.base c.args.text.now (length c.args.text.now) (omega arith)
    (λ k h. c.loop-index.invariant k (omega arith)) (λ h. absurd (omega arith))
