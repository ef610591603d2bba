-- What contracts see of a tracker of fuel.
use Rattle.std.specs.Prelude.{ℕ}
use Rattle.template_machine_going.specs.declared.tracking.FuelTracker.{FuelTracker}

-- the fuel that it began with
abbrev pub fuel_in : FuelTracker → ℕ
fuel_in t = t.fuel

-- what is left of it
abbrev pub remaining_in : FuelTracker → ℕ
remaining_in t = t.left
