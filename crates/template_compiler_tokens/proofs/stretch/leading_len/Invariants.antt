use Rattle.std.proofs.Common.{take}
use Rattle.template_compiler_tokens.specs.Bytes.{ArePlain}
use Rattle.template_compiler_tokens.proofs.stretch.leading_len.Given as goal

abbrev pub invariant-loop-index : goal.invariant-loop-index
invariant-loop-index l = ArePlain (take l.index l.initial.bytes)
