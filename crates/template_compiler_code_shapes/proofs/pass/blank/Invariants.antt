use Rattle.std.proofs.Common.{◌≡◌, false, replicate}
use Rattle.template_compiler_code_shapes.proofs.pass.blank.Given as goal

abbrev pub invariant-loop-place : goal.invariant-loop-place
invariant-loop-place l = l.flags.items ≡ replicate l.place false
