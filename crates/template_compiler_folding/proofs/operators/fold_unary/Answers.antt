use Rattle.template_values_forms.specs.Known.{nothing_known}
use Rattle.template_compiler_walk.specs.Operators.{inverted, negated}
use Rattle.template_compiler_folding.proofs.Settling.{gives_alone}
use Rattle.template_compiler_folding.proofs.operators.fold_unary.Goals as goal

pub returns-in-Not-clause-folded : goal.returns-in-Not-clause-folded
returns-in-Not-clause-folded c =
    let answer = inverted nothing_known c.in-Some.value in
    rw (c.in-Some.is, c.in-Not.is) (c.settled.ensures.settled answer (gives_alone answer c.invert.result c.invert.ensures))

pub returns-in-Neg-clause-folded : goal.returns-in-Neg-clause-folded
returns-in-Neg-clause-folded c =
    let answer = negated c.in-Some.value in
    rw (c.in-Some.is, c.in-Neg.is) (c.settled-in-Neg.ensures.settled answer (gives_alone answer c.negate.result c.negate.ensures))
