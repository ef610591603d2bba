use Rattle.std.proofs.Common.{None, refl}
use Rattle.template_machine_renders.specs.Programs as units
use Rattle.template_machine_environment.specs.Extras.{user_answers}
use Rattle.template_machine_environment.specs.Reading.{brought_of}
use Rattle.template_machine_environment.proofs.Evaluating.{evaluation_gives, evaluation_stops}
use Rattle.template_machine_environment.proofs.Rendering.{ruled_programs}
use Rattle.template_machine_environment.proofs.expression.evaluate.Goals as goal

pub returns : goal.returns
returns g c =
    let environment = c.args.environment.now in
    let says = (user_answers g.E.Callable.Callable.answer g.E.Method.UnknownMethod.answer g.E.Formatter.Formatter.answer g.E.Join.PathJoin.answer) in
    let rules = c.rules.ensures in
    evaluation_stops (brought_of says environment) environment.registry c.args.id c.args.compiled.now c.args.context _ _ _ _ _ _ _ _ c.in-Err.stop c.into_error.result c.into_error.ensures
    (record {
      faithful = c.instructions.ensures.faithful;
      programs = ruled_programs says environment environment None (units.alone None) _ _ c.rules.result.limit c.rules.result.undefined refl refl rules.name rules.limit rules.undefined;
      is_code = c.instructions.ensures.code;
      start = c.in_ok-state.ensures.made;
    }) c.in-Err.ensures.failures c.in-Err.ensures.evaluates

pub returns-in-Ok : goal.returns-in-Ok
returns-in-Ok g c =
    let environment = c.args.environment.now in
    let says = (user_answers g.E.Callable.Callable.answer g.E.Method.UnknownMethod.answer g.E.Formatter.Formatter.answer g.E.Join.PathJoin.answer) in
    let rules = c.rules.ensures in
    evaluation_gives (brought_of says environment) environment.registry c.args.id c.args.compiled.now c.args.context _ _ _ _ _ _ _ _ c.freeze.result
    (record {
      faithful = c.instructions.ensures.faithful;
      programs = ruled_programs says environment environment None (units.alone None) _ _ c.rules.result.limit c.rules.result.undefined refl refl rules.name rules.limit rules.undefined;
      is_code = c.instructions.ensures.code;
      start = c.in_ok-state.ensures.made;
    }) c.in-Ok.ensures.evaluates c.freeze.ensures
