use Rattle.std.proofs.Common.{◌≤◌, length}
use Rattle.template_builtins_fields.specs.declared.layouts.TheConstants.{GREATEST_WIDTH}
use Rattle.template_builtins_fields.proofs.Widths.{IsLeft}
use Rattle.template_builtins_fields.proofs.layouts.width_in.Given as goal

-- the number so far is no greater than a width may be, and the rest writes it on
abbrev pub invariant-digits : goal.invariant-digits
invariant-digits l = (l.width ≤ GREATEST_WIDTH) × IsLeft l.characters l.width l.rest

abbrev pub decreases-digits : goal.decreases-digits
decreases-digits l = length l.rest
