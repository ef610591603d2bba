use Rattle.std.proofs.Common.{sym, ◌∙◌, ◌+◌, ◌<◌, ◌^◌, get_or, arith}
use Rattle.template_compiler_tokens.specs.Numbers.{with_digit}
use Rattle.template_compiler_scanner.proofs.Digits.{value_so_far, value_next, value_none}
use Rattle.template_compiler_scanner.proofs.numbers.value_of.Goals as goal

pub loop-byte-init : goal.loop-byte-init
loop-byte-init c = (sym (value_none c.args.base), omega arith)

pub returns-in-None : goal.returns-in-None
returns-in-None c = λ small.
    let i = c.loop-byte.byte-index in
    let s = c.args.digits.now in
    let base = c.args.base in
    let next = value_next base i s (omega arith) in
    let so_far = value_so_far base (i + 1) s (omega arith) in
    let here : with_digit base c.loop-byte.value (get_or s i 0) < 2 ^ 127 = rw c.loop-byte.invariant.0 (omega arith) in
    c.in-None.ensures here

pub loop-byte-preserved : goal.loop-byte-preserved
loop-byte-preserved c =
    let next = value_next c.args.base c.loop-byte.byte-index c.args.digits.now (omega arith) in
    (c.in-Some.ensures.1 ∙ rw c.loop-byte.invariant.0 (sym next), rw c.in-Some.ensures.1 c.in-Some.ensures.0)
