use Rattle.template_compiler_scanner.proofs.escapes.low_surrogate.Goals as goal

pub returns-in-None-clause-none : goal.returns-in-None-clause-none
returns-in-None-clause-none c = λ low h. c.in-None.ensures.none low h.digits
