use Rattle.std.proofs.Common.{sym, subst, ◌∙◌}
use Rattle.template_compiler_walk.specs.Operators.{operated}
use Rattle.template_machine_meaning.specs.Replies.{guarded, kinded}
use Rattle.template_machine_operations.specs.Answers.{Answers}
use Rattle.template_machine_operations.proofs.Answering.{gives_answers}
use Rattle.template_machine_operations.proofs.operators.operate.Goals as goal

pub returns : goal.returns
returns g c =
    let answer = operated (g.R.Records.known c.args.records.now) c.args.op c.args.left c.args.right.now in
    subst (λ forbidden. Answers c.operate_owned.result (guarded forbidden (kinded answer))) (sym c.if-forbids_operator.false ∙ c.forbids_operator.ensures)
    (gives_answers c.operate_owned.result answer c.operate_owned.ensures)
