use Rattle.std.proofs.Common.{option_copied}
use Rattle.template_compiled.specs.Standing.{all_in}
use Rattle.template_machine_environment.specs.Extras.{user_answers}
use Rattle.template_machine_environment.specs.Reading.{brought_of, registry_of}
use Rattle.template_machine_environment.proofs.Ending.{state_block_ends}
use Rattle.template_machine_environment.proofs.laws.every_block_ends.Goals as goal

pub returns : goal.returns
returns g c =
    let state = c.args.state.now in
    let environment = state.environment.now in
    let registry = registry_of environment in
    let says = (user_answers g.E.Callable.Callable.answer g.E.Method.UnknownMethod.answer g.E.Formatter.Formatter.answer g.E.Join.PathJoin.answer) in
    state_block_ends (brought_of says environment) registry (all_in registry.templates) c.values-standing.ensures.found
    (option_copied state.template) state.machine
