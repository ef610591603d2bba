use Rattle.template_values_forms.specs.Known.{nothing_known}
use Rattle.template_compiler_walk.specs.Operators.{compared}
use Rattle.template_compiler_folding.proofs.Settling.{gives_alone}
use Rattle.template_compiler_folding.proofs.operators.fold_comparison.Goals as goal

pub returns-in-Some-right-clause-folded : goal.returns-in-Some-right-clause-folded
returns-in-Some-right-clause-folded c =
    let answer = compared nothing_known c.args.op c.in-Some.left c.in-Some-right.right in
    rw (c.in-Some.is, c.in-Some-right.is) (c.settled.ensures.settled answer (gives_alone answer c.compare.result c.compare.ensures))
