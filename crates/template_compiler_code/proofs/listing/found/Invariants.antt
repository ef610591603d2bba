use Rattle.std.proofs.Common.{◌≡◌, drop, map}
use Rattle.template_compiler_code.specs.Counting.{place_from}
use Rattle.template_compiler_code.specs.View.{code_of}
use Rattle.template_compiler_code.proofs.listing.found.Given as goal

-- what is looked for stands in what is left, under what is left of the number
abbrev pub invariant-loop-instruction : goal.invariant-loop-instruction
invariant-loop-instruction l =
    (l.place ≡ l.instruction-index)
    × (place_from l.part l.place (map code_of (drop l.instruction-index l.code)) l.left ≡ place_from l.part 0 (map code_of l.code) l.number)
