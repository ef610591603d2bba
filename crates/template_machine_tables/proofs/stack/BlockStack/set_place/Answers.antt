-- The place is written where the name's bodies stand.
use Rattle.std.proofs.Common.{ap, sym, ◌∙◌}
use Rattle.template_machine_meaning.specs.Bodies.{with_place}
use Rattle.template_machine_tables.specs.Stack.{blocks_among, blocks_in}
use Rattle.template_machine_tables.proofs.Naming.{found_among, placed_among, unplaced}
use Rattle.template_machine_tables.proofs.stack.BlockStack.set_place.Goals as goal
use Rattle.template_machine_tables.proofs.stack.BlockStack.set_place.Goals.{in-Some, in-None}

pub returns : goal.returns
returns c =
    let es = c.self.inside.bodies.entries in
    elim c.match-get_mut.branch [
      | in-Some w ↦ rw w.self-inside-is
          (ap blocks_among (c.get_mut.follows.holds w.set_place.new.self).0
          ∙ placed_among es c.args.name.now c.args.place w.in-Some.bodies.now w.set_place.new.self w.in-Some.ensures.value w.set_place.ensures
          ∙ ap (with_place c.args.name.now c.args.place) c.self.view_is)
      | in-None w ↦ rw w.self-inside-is
          (ap blocks_in c.get_mut.follows.holds-at-none
          ∙ sym (unplaced (blocks_among es) c.args.name.now c.args.place (sym (found_among es c.args.name.now) ∙ sym w.in-None.ensures.value))
          ∙ ap (with_place c.args.name.now c.args.place) c.self.view_is)
    ]
