use Rattle.std.proofs.Common.{◌≡◌, count_by, take}
use Rattle.template_compiler_tokens.specs.Bytes.{is_between}
use Rattle.template_compiler_tokens.proofs.counts.count_in_block.Given as goal

abbrev pub invariant-loop-byte : goal.invariant-loop-byte
invariant-loop-byte l = l.count ≡ count_by (is_between l.low l.high) (take l.byte-index l.block)
