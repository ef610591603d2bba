use Rattle.std.proofs.Common.{◌≡◌, ℕ, List, Err, subst}
use Rattle.template_machine_going.specs.Told.{FaultsSo}
use Rattle.template_machine_environment.specs.Extras.{joins_by, user_answers}
use Rattle.template_machine_environment.specs.Reading.{extras_of}
use Rattle.template_machine_environment.specs.States.{joined_in}
use Rattle.template_machine_environment.proofs.Told.{missing_so}
use Rattle.template_machine_environment.proofs.state.State.get_template.Goals as goal

pub returns-in-Err-clause-missing : goal.returns-in-Err-clause-missing
returns-in-Err-clause-missing g c =
    let self = c.args.self.now in
    let environment = self.environment.now in
    let says = (user_answers g.E.Callable.Callable.answer g.E.Method.UnknownMethod.answer g.E.Formatter.Formatter.answer g.E.Join.PathJoin.answer) in
    missing_so environment.registry (joined_in says self c.args.name.now) c.in-Err.stop c.into_error.result c.into_error.ensures
    (subst (λ (parent : List ℕ). FaultsSo (λ ks. joins_by g.E.Join.PathJoin.answer (extras_of environment).join c.args.name.now parent ≡ Err ks) c.in-Err.stop) c.name.ensures c.in-Err.ensures.refused)
