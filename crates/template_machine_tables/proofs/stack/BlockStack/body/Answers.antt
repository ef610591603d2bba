-- What its bodies tell.
use Rattle.std.proofs.Common.{ap, sym, slice_get}
use Rattle.std.specs.Option.{option_and_then}
use Rattle.template_machine_meaning.specs.Bodies.{Bodies, bodies_at}
use Rattle.template_machine_tables.proofs.Naming.{body_told, missing_told}
use Rattle.template_machine_tables.proofs.stack.BlockStack.body.Goals as goal

pub returns-in-Some-clause-found : goal.returns-in-Some-clause-found
returns-in-Some-clause-found c = body_told c.running.result c.args.name.now c.args.self.now c.in-Some.bodies.now c.in-Some.ensures c.running.ensures.told

pub returns-in-Some-clause-missing : goal.returns-in-Some-clause-missing
returns-in-Some-clause-missing c =
    missing_told c.running.result (λ b. slice_get b.homes b.place) (bodies_at c.args.name.now c.args.self.now) c.in-Some.bodies.now c.in-Some.ensures c.running.ensures.missing

pub returns-in-None-clause-missing : goal.returns-in-None-clause-missing
returns-in-None-clause-missing c =
    ap (option_and_then (λ (b : Bodies). slice_get b.homes b.place)) (sym c.in-None.ensures)
