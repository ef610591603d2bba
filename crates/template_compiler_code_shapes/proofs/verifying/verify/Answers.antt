use Rattle.template_compiler_code_shapes.proofs.verifying.verify.Goals as goal

pub invariant_of-result : goal.invariant_of-result
invariant_of-result c = record { good = c.in-Ok.ensures.good }
