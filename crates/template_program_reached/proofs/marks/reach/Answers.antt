use Rattle.std.proofs.Common.{sym}
use Rattle.template_program_reached.proofs.Marking.{reaches_none, reaches_place}
use Rattle.template_program_reached.proofs.marks.reach.Goals as goal

pub returns-in_ok-mark-in-Some-clause-reached : goal.returns-in_ok-mark-in-Some-clause-reached
returns-in_ok-mark-in-Some-clause-reached c =
    reaches_place c.args.places.now c.args.name.now c.in-Some.place c.args.found.now.order.items c.mark.new.found.order.items
    (sym c.in-Some.ensures) c.in_ok-mark-in-Some.ensures.came

pub returns-in-None-clause-reached : goal.returns-in-None-clause-reached
returns-in-None-clause-reached c =
    reaches_none c.args.places.now c.args.name.now c.args.found.now.order.items (sym c.in-None.ensures)
