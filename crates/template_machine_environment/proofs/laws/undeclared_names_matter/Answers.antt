use Rattle.template_machine_environment.specs.Extras.{user_answers}
use Rattle.template_machine_environment.specs.Isolated.{tree_of}
use Rattle.template_machine_environment.specs.Reading.{brought_of, registry_of, setting_in}
use Rattle.template_machine_environment.proofs.Naming.{own_told, standing_told}
use Rattle.template_machine_environment.proofs.laws.undeclared_names_matter.Goals as goal

pub returns-clause-own : goal.returns-clause-own
returns-clause-own g c =
    own_told (setting_in (user_answers g.E.Callable.Callable.answer g.E.Method.UnknownMethod.answer g.E.Formatter.Formatter.answer g.E.Join.PathJoin.answer) c.args._environment.now)
    (tree_of c.args._template.now)

pub returns-clause-standing : goal.returns-clause-standing
returns-clause-standing g c = λ other source at name told.
    let environment = c.args._environment.now in
    standing_told (brought_of (user_answers g.E.Callable.Callable.answer g.E.Method.UnknownMethod.answer g.E.Formatter.Formatter.answer g.E.Join.PathJoin.answer) environment)
    (registry_of environment) (tree_of c.args._template.now) other name source at told
