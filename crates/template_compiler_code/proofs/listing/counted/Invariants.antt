use Rattle.std.proofs.Common.{◌≡◌, ◌≤◌, ◌+◌, drop, map}
use Rattle.template_compiler_code.specs.Counting.{count_of, counts_before}
use Rattle.template_compiler_code.specs.View.{code_of}
use Rattle.template_compiler_code.proofs.listing.counted.Given as goal

-- the parts that were counted, and those of what is left of the first so many instructions, are all of them
abbrev pub invariant-loop-instruction : goal.invariant-loop-instruction
invariant-loop-instruction l =
    (l.parts ≤ l.instruction-index)
    × (l.parts + count_of l.part (counts_before (map code_of (drop l.instruction-index l.code)) l.left)
    ≡ count_of l.part (counts_before (map code_of l.code) l.count))
