use Rattle.std.proofs.lemmas.Result.{err_from_is_err_and}
use Rattle.template_compiler_process.specs.Fuel.{under}
use Rattle.template_machine_environment.specs.Evaluations.{evaluation_of, fuel_under}
use Rattle.template_machine_environment.specs.Extras.{user_answers}
use Rattle.template_program_expression.proofs.Told.{counts, fault_told, value_told}
use Rattle.template_program_expression.proofs.evaluating.told.Goals as goal

pub returns-in_err-value-clause-told : goal.returns-in_err-value-clause-told
returns-in_err-value-clause-told g c =
    let says = (user_answers g.E.Callable.Callable.answer g.E.Method.UnknownMethod.answer g.E.Formatter.Formatter.answer g.E.Join.PathJoin.answer) in
    let expression = c.args.expression.now in
    let p = err_from_is_err_and c.from_residual.result c.from_residual.ensures.1 in
    rw (p.1, p.2)
    (λ more. fault_told c.args.as_json c.args.mode (under (fuel_under expression) (evaluation_of says expression c.args.ids.now c.args.context))
    _ (c.in_err-value.ensures.value more))

pub returns-in_err-value-clause-exhausted : goal.returns-in_err-value-clause-exhausted
returns-in_err-value-clause-exhausted g c =
    let p = err_from_is_err_and c.from_residual.result c.from_residual.ensures.1 in
    rw (p.1, p.2) (λ last. let is = (c.in_err-value.ensures.exhausted last).0 in cc)

pub returns-in_err-value-clause-counted : goal.returns-in_err-value-clause-counted
returns-in_err-value-clause-counted g c =
    counts c.args.ids.now c.eval.new.ids c.in_err-value.ensures.counted c.in_err-value.ensures.exhausted

pub returns-clause-told : goal.returns-clause-told
returns-clause-told g c =
    let says = (user_answers g.E.Callable.Callable.answer g.E.Method.UnknownMethod.answer g.E.Formatter.Formatter.answer g.E.Join.PathJoin.answer) in
    let expression = c.args.expression.now in
    λ more. value_told c.args.as_json c.args.mode (under (fuel_under expression) (evaluation_of says expression c.args.ids.now c.args.context))
    c.in_ok-value.value c.line_of.result (c.in_ok-value.ensures.value more) c.line_of.ensures

pub returns-clause-exhausted : goal.returns-clause-exhausted
returns-clause-exhausted g c = λ last. let never = (c.in_ok-value.ensures.exhausted last).0 in cc

pub returns-clause-counted : goal.returns-clause-counted
returns-clause-counted g c =
    counts c.args.ids.now c.eval.new.ids c.in_ok-value.ensures.counted c.in_ok-value.ensures.exhausted
