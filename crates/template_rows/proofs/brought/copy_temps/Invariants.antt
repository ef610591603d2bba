-- The names and values so far are those of the temps so far.
use Rattle.std.proofs.Common.{◌≡◌, take}
use Rattle.template_values_named.specs.Named.{pairs_named}
use Rattle.template_rows.proofs.brought.copy_temps.Given as goal

abbrev pub invariant-loop-name : goal.invariant-loop-name
invariant-loop-name l = pairs_named l.copies.items ≡ pairs_named (take l.name-index l.temps)
