-- A template is among all units where it is among those that are left.
use Rattle.std.proofs.Common.{◌≡◌, drop}
use Rattle.template_compiler_names_closures.specs.Units.{parts_in}
use Rattle.template_compiler_names_needed.specs.Needed.{has_whole}
use Rattle.template_compiler_names_needed.proofs.rounds.holds_template.Given as goal

abbrev pub invariant-loop-unit : goal.invariant-loop-unit
invariant-loop-unit l = has_whole (parts_in (drop l.unit-index l.units)) ≡ has_whole (parts_in l.units)
