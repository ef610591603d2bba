-- The filters so far are put.
use Rattle.std.proofs.Common.{◌-◌, length, take}
use Rattle.template_compiler_emission.specs.Puts.{Puts}
use Rattle.template_compiler_expression_codegen.proofs.Filtering.{so_far_code}
use Rattle.template_compiler_expression_codegen.proofs.filters.put_filters.Given as goal

abbrev pub decreases-loop-i : goal.decreases-loop-i
decreases-loop-i l = length l.nodes.items - l.i

abbrev pub invariant-loop-i : goal.invariant-loop-i
invariant-loop-i l = Puts (so_far_code (take l.i l.nodes.items)) l.initial.code l.code
