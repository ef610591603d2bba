use Rattle.std.proofs.Common.{◌≡◌, ◌++◌, drop}
use Rattle.template_builtins_methods.proofs.Valuing.{values_in}
use Rattle.template_builtins_methods.proofs.maps.values_of.Given as goal

-- the values so far stand before those of the entries that are left
abbrev pub invariant-loop-entry : goal.invariant-loop-entry
invariant-loop-entry l = l.values.items ++ values_in (drop l.entry-index l.entries) ≡ values_in l.entries
