use Rattle.template_compiled.specs.Compiled.{standing_of}
use Rattle.template_machine_environment.specs.Extras.{user_answers}
use Rattle.template_machine_environment.specs.Reading.{brought_of, registry_of, setting_in}
use Rattle.template_machine_environment.specs.Views.{compiled_of, environment_of, source_of}
use Rattle.template_machine_environment.proofs.Importing.{source_imports, standing_import}
use Rattle.template_machine_environment.proofs.laws.isolated_renders.Goals as goal

pub returns : goal.returns
returns g c = λ x asks d agree id n fuel.
    let says = (user_answers g.E.Callable.Callable.answer g.E.Method.UnknownMethod.answer g.E.Formatter.Formatter.answer g.E.Join.PathJoin.answer) in
    let template = c.args.template.now in
    let environment = environment_of template in
    c.isolation.ensures (setting_in says environment) asks (standing_import (brought_of says environment) (registry_of environment)) id
    (standing_of (compiled_of template)) (source_imports (source_of template)) x d agree n fuel
