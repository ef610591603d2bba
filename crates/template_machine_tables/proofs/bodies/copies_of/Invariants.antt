use Rattle.std.proofs.Common.{◌≡◌, take}
use Rattle.template_machine_tables.proofs.bodies.copies_of.Given as goal

abbrev pub invariant-loop-home : goal.invariant-loop-home
invariant-loop-home l = l.copies.items ≡ take l.home-index l.homes
