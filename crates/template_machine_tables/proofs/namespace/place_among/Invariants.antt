use Rattle.std.proofs.Common.{◌≡◌, drop}
use Rattle.template_values_model.specs.Val.{text}
use Rattle.template_values_core.specs.Shape.{pairs_in}
use Rattle.template_machine_tables.specs.Places.{place_among, place_from}
use Rattle.template_machine_tables.proofs.namespace.place_among.Given as goal

-- the keys that were passed are below the name
abbrev pub invariant-loop-place : goal.invariant-loop-place
invariant-loop-place l = place_among (text l.name) (pairs_in l.entries) ≡ place_from l.place (text l.name) (pairs_in (drop l.place l.entries))
