use Rattle.std.proofs.Common.{◌≡◌, ◌<◌, ◌^◌, take}
use Rattle.template_compiler_tokens.specs.Numbers.{value_of}
use Rattle.template_compiler_scanner.proofs.numbers.value_of.Given as goal

-- the number that the digits so far spell
abbrev pub invariant-loop-byte : goal.invariant-loop-byte
invariant-loop-byte l = (l.value ≡ value_of l.base (take l.byte-index l.digits)) × (l.value < 2 ^ 127)
