use Rattle.template_machine_meaning.proofs.RunsKept.{world_stays}
use Rattle.template_machine_calls.specs.Left.{turnings_in}
use Rattle.template_machine_environment.specs.Extras.{user_answers}
use Rattle.template_machine_environment.proofs.Told.{reached_as, turned_spares, turned_there}
use Rattle.template_machine_environment.proofs.state.State.come_to.Goals as goal

pub returns-in-Value-clause-does : goal.returns-in-Value-clause-does
returns-in-Value-clause-does g c =
    let self = c.args.self.now in
    let says = (user_answers g.E.Callable.Callable.answer g.E.Method.UnknownMethod.answer g.E.Formatter.Formatter.answer g.E.Join.PathJoin.answer) in
    reached_as says self self _ c.args.reached c.turn_all.result c.in-Value.is
    (turned_there says self (turnings_in c.in-Value.turnings.items) c.in-Value.value c.turn_all.result c.turn_all.ensures)

pub returns-in-Value-clause-spares : goal.returns-in-Value-clause-spares
returns-in-Value-clause-spares g c = turned_spares c.args.self.now.machine (turnings_in c.in-Value.turnings.items) c.in-Value.value c.turn_all.result c.turn_all.ensures

pub returns-in-Enters-clause-does : goal.returns-in-Enters-clause-does
returns-in-Enters-clause-does g c =
    let self = c.args.self.now in
    let says = (user_answers g.E.Callable.Callable.answer g.E.Method.UnknownMethod.answer g.E.Formatter.Formatter.answer g.E.Join.PathJoin.answer) in
    reached_as says self c.enter.new.self _ c.args.reached c.enter.result c.in-Enters.is c.enter.ensures.does

pub returns-in-Value-clause-keeps : goal.returns-in-Value-clause-keeps
returns-in-Value-clause-keeps g c = world_stays _
