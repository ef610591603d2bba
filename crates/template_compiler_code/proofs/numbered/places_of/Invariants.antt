use Rattle.std.proofs.Common.{◌≡◌, ◌++◌, drop, map}
use Rattle.template_compiler_code.specs.Counting.{places_from}
use Rattle.template_compiler_code.specs.View.{code_of}
use Rattle.template_compiler_code.proofs.numbered.places_of.Given as goal

-- the places that were listed, and those of what is left, are all places
abbrev pub invariant-loop-instruction : goal.invariant-loop-instruction
invariant-loop-instruction l =
    (l.place ≡ l.instruction-index)
    × (l.places.items ++ places_from l.part l.place (map code_of (drop l.instruction-index l.code)) ≡ places_from l.part 0 (map code_of l.code))
