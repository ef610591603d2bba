-- What its bodies tell.
use Rattle.std.proofs.Common.{ap, sym, suc, slice_get}
use Rattle.std.specs.Option.{option_and_then}
use Rattle.template_machine_meaning.specs.Bodies.{Bodies, bodies_at}
use Rattle.template_machine_tables.proofs.Naming.{behind_told, missing_told}
use Rattle.template_machine_tables.proofs.stack.BlockStack.behind.Goals as goal

pub returns-in-Some-clause-found : goal.returns-in-Some-clause-found
returns-in-Some-clause-found c = behind_told c.standing_behind.result c.args.name.now c.args.self.now c.in-Some.bodies.now c.in-Some.ensures c.standing_behind.ensures.told

pub returns-in-Some-clause-missing : goal.returns-in-Some-clause-missing
returns-in-Some-clause-missing c =
    missing_told c.standing_behind.result (λ b. slice_get b.homes (suc b.place)) (bodies_at c.args.name.now c.args.self.now) c.in-Some.bodies.now c.in-Some.ensures c.standing_behind.ensures.missing

pub returns-in-None-clause-missing : goal.returns-in-None-clause-missing
returns-in-None-clause-missing c =
    ap (option_and_then (λ (b : Bodies). slice_get b.homes (suc b.place))) (sym c.in-None.ensures)
