use Rattle.std.proofs.Common.{take}
use Rattle.template_compiler_tokens.specs.Bytes.{ArePlain}
use Rattle.template_compiler_tokens.proofs.place.are_plain.Given as goal

abbrev pub invariant-loop-byte : goal.invariant-loop-byte
invariant-loop-byte l = ArePlain (take l.byte-index l.initial.bytes)
