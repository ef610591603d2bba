use Rattle.std.proofs.Common.{refl}
use Rattle.template_machine_environment.specs.Extras.{user_answers}
use Rattle.template_machine_environment.proofs.Calling.{program_in}
use Rattle.template_machine_environment.proofs.Told.{entered_there, sink_spares}
use Rattle.template_machine_environment.proofs.state.State.enter.Goals as goal

pub returns-clause-does : goal.returns-clause-does
returns-clause-does g c =
    let self = c.args.self.now in
    let says = (user_answers g.E.Callable.Callable.answer g.E.Method.UnknownMethod.answer g.E.Formatter.Formatter.answer g.E.Join.PathJoin.answer) in
    let programs = c.program.ensures in
    let is = program_in says self c.program.result.templates.now _ c.program.result.rules.name.now c.program.result.rules.limit c.program.result.rules.undefined
    programs.templates programs.roots programs.name programs.limit programs.undefined in
    entered_there says self c.args.entry _ _ _ _ c.run_entry-told.result is c.remaining-left.ensures c.run_entry-told.ensures.plan c.spend-self.ensures.left

pub returns-clause-spares : goal.returns-clause-spares
returns-clause-spares g c = sink_spares 0 c.run_entry-told.result c.run_entry-told.ensures.failures

pub returns-clause-rest : goal.returns-clause-rest
returns-clause-rest g c = record { environment = refl; template = refl; id = refl; fuel = c.spend-self.ensures.set; streams = refl }

pub returns-clause-keeps : goal.returns-clause-keeps
returns-clause-keeps g c = c.run_entry-told.ensures.keeps
