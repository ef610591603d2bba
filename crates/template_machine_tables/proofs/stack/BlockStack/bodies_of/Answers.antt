-- The list has what the map has.
use Rattle.std.proofs.Common.{◌∙◌, ap}
use Rattle.template_machine_meaning.specs.Bodies.{bodies_at}
use Rattle.template_machine_tables.proofs.Naming.{found_among}
use Rattle.template_machine_tables.proofs.stack.BlockStack.bodies_of.Goals as goal

pub returns : goal.returns
returns c =
    c.get.ensures.value ∙ found_among c.self.inside.bodies.entries c.args.name.now ∙ ap (bodies_at c.args.name.now) c.self.view_is
