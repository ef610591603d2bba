use Rattle.std.proofs.Common.{◌≡◌, ◌++◌, map}
use Rattle.template_compiler_code.specs.View.{code_of}
use Rattle.template_compiler_code.proofs.listing.owned_code.Given as goal

-- what is copied and what is left are the code
abbrev pub invariant-loop-instruction : goal.invariant-loop-instruction
invariant-loop-instruction l = map code_of l.copies.items ++ map code_of l.instruction-iterator.rest.items ≡ map code_of l.fn.code.items
