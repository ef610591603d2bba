-- A new name takes its place in the order.
use Rattle.std.proofs.Common.{ap, ◌∙◌, ◌++◌, ◌∷◌, []}
use Rattle.template_machine_meaning.specs.Bodies.{Bodies, bodies_at, with_body}
use Rattle.template_machine_tables.specs.Stack.{blocks_among}
use Rattle.template_machine_tables.specs.Streams.{home_of}
use Rattle.template_machine_tables.proofs.Naming.{put_first}
use Rattle.template_machine_tables.proofs.stack.BlockStack.add_first.Goals as goal

pub returns-clause-added : goal.returns-clause-added
returns-clause-added c =
    let home = home_of c.args.home in
    ap blocks_among c.in_ok-insert.ensures.entries
    ∙ put_first c.self.inside.bodies.entries c.args.name home c.push.new.self
    (c.in_ok-push.ensures.pushed ∙ ap (λ (b : Bodies). record b { homes = b.homes ++ home ∷ [] }) c.new-bodies.ensures)
    (ap (bodies_at c.args.name.now) c.self.view_is ∙ c.requires)
    ∙ ap (with_body home c.args.name.now) c.self.view_is
