use Rattle.template_compiled.specs.Expressions.{expression_in}
use Rattle.template_machine_environment.specs.Extras.{user_answers}
use Rattle.template_machine_environment.specs.Evaluations.{setting_under, text_of}
use Rattle.template_machine_environment.proofs.expression.Expression.eval.Goals as goal

pub returns-in_err-id-clause-isolated : goal.returns-in_err-id-clause-isolated
returns-in_err-id-clause-isolated g c = λ asks d agree id fuel.
    let setting = setting_under (user_answers g.E.Callable.Callable.answer g.E.Method.UnknownMethod.answer g.E.Formatter.Formatter.answer g.E.Join.PathJoin.answer) c.args.self.now in
    c.expression_isolation.ensures setting asks id (expression_in (text_of c.args.self.now)) c.args.context d agree fuel

pub returns-clause-isolated : goal.returns-clause-isolated
returns-clause-isolated g c = λ asks d agree id fuel.
    let setting = setting_under (user_answers g.E.Callable.Callable.answer g.E.Method.UnknownMethod.answer g.E.Formatter.Formatter.answer g.E.Join.PathJoin.answer) c.args.self.now in
    c.expression_isolation.ensures setting asks id (expression_in (text_of c.args.self.now)) c.args.context d agree fuel

-- every expression gives one value, or ends with a fault
pub returns-in_err-id-clause-finished : goal.returns-in_err-id-clause-finished
returns-in_err-id-clause-finished g c =
    let setting = setting_under (user_answers g.E.Callable.Callable.answer g.E.Method.UnknownMethod.answer g.E.Formatter.Formatter.answer g.E.Join.PathJoin.answer) c.args.self.now in
    c.every_expression_gives.ensures setting c.args.ids.now (expression_in (text_of c.args.self.now)) c.every_expression_runs.ensures.runs c.args.context

pub returns-clause-finished : goal.returns-clause-finished
returns-clause-finished g c =
    let setting = setting_under (user_answers g.E.Callable.Callable.answer g.E.Method.UnknownMethod.answer g.E.Formatter.Formatter.answer g.E.Join.PathJoin.answer) c.args.self.now in
    c.every_expression_gives.ensures setting c.args.ids.now (expression_in (text_of c.args.self.now)) c.every_expression_runs.ensures.runs c.args.context
