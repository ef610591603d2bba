use Rattle.std.proofs.Common.{option_copied}
use Rattle.template_machine_meaning.specs.Functions.{found_called, invokes}
use Rattle.template_machine_meaning.specs.World.{looked_up}
use Rattle.template_compiled.specs.Standing.{all_in}
use Rattle.template_machine_environment.specs.Extras.{user_answers}
use Rattle.template_machine_environment.specs.Reading.{brought_of, registry_of}
use Rattle.template_machine_environment.proofs.Ending.{state_call_ends, state_text_ends}
use Rattle.template_machine_environment.proofs.laws.every_call_ends.Goals as goal

pub returns-clause-calls : goal.returns-clause-calls
returns-clause-calls g c = λ what args.
    let state = c.args.state.now in
    let environment = state.environment.now in
    let registry = registry_of environment in
    let says = (user_answers g.E.Callable.Callable.answer g.E.Method.UnknownMethod.answer g.E.Formatter.Formatter.answer g.E.Join.PathJoin.answer) in
    state_call_ends (brought_of says environment) registry (all_in registry.templates) c.values-standing.ensures.found
    (option_copied state.template) state.machine (invokes what args)

pub returns-clause-texts : goal.returns-clause-texts
returns-clause-texts g c = λ name args.
    let state = c.args.state.now in
    let world = state.machine in
    let environment = state.environment.now in
    let registry = registry_of environment in
    let says = (user_answers g.E.Callable.Callable.answer g.E.Method.UnknownMethod.answer g.E.Formatter.Formatter.answer g.E.Join.PathJoin.answer) in
    state_text_ends (brought_of says environment) registry (all_in registry.templates) c.values-standing.ensures.found
    (option_copied state.template) world (found_called world.globals (looked_up name world) args)
