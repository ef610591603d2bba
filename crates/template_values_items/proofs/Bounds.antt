-- A bound that was taken is the bound that the value means.
use Rattle.std.proofs.Common.{◌≡◌, Result, Ok, Err, ap}
use Rattle.template_values_model.specs.Fault.{Fault}
use Rattle.template_values_model.specs.Gives.{alone}

pub taken : {X : Type 0} (answer : Result X Fault) (x : X) → Ok x ≡ alone answer → answer ≡ Ok x
taken (Ok y) x is = let same : y ≡ x = cc in ap Ok same
taken (Err fault) x is = absurd (cc)
