use Rattle.std.proofs.Common.{Bor, List, ap}
use Rattle.std.specs.Prelude.{option_map}
use Rattle.template_values_core.specs.Shape.{pairs_in}
use Rattle.template_values_core.specs.declared.value.Entry.{Entry}
use Rattle.template_machine_operations.proofs.Spreading.{held_put}
use Rattle.template_machine_operations.proofs.spreads.push_held.Goals as goal

pub returns-in-Some : goal.returns-in-Some
returns-in-Some c =
    held_put c.push_copies.result (pairs_in c.args.entries.now.items) (pairs_in c.push_copies.new.entries.items) (pairs_in c.in-Some.held.now) _
    (ap (option_map (λ (es : Bor (List Entry)). pairs_in es.now)) c.in-Some.is) c.push_copies.ensures.put c.push_copies.ensures.refused
