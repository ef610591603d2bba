use Rattle.std.proofs.Common.{◌≡◌, ◌≤◌, drop}
use Rattle.std.specs.Str.Parse.{digits_value_after}
use Rattle.template_builtins_formats.proofs.directives.limited.Given as goal

-- the total and the figures that are left come to the whole number
abbrev pub invariant-loop-figure : goal.invariant-loop-figure
invariant-loop-figure l = record {
  value : digits_value_after 10 0 l.figures ≡ digits_value_after 10 l.total (drop l.figure-index l.figures);
  within : l.total ≤ 16777216;
}
