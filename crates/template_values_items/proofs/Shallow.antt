-- A slice of a list nests no deeper than the list, so it is never refused.
use Rattle.std.proofs.Common.{ℕ, zero, suc, ◌<◌, ℤ, pos, negsuc, ◌+ℤ◌, ◌*ℤ◌, List, [], ◌∷◌, length, Option, Result, arith}
use Rattle.std.specs.Prelude.{slice_get}
use Rattle.std.specs.Option.{option_to_list}
use Rattle.template_values_errors.specs.declared.ErrorKind.{ErrorKind}
use Rattle.template_values_model.specs.declared.TheConstants.{DEPTH_LIMIT}
use Rattle.template_values_model.specs.Gives.{TellsFault}
use Rattle.template_values_model.specs.Val.{Val, vals_of}
use Rattle.template_values_core.specs.Depth.{vals_depth}
use Rattle.template_values_operators.specs.Kinds.{list_made}
use Rattle.template_values_operators.specs.Slices.{item_at, picked, sliced, start_place, stop_place, step_count}
use Rattle.template_values_operators.proofs.Shallow.{shallow_tells, vals_depth-append}

got-shallow : (xs : List Val) (i limit : ℕ) → vals_depth (vals_of xs) < limit
    → vals_depth (vals_of (option_to_list (slice_get xs i))) < limit
got-shallow [] i limit h = h
got-shallow (x ∷ xs) zero limit h = omega (arith, h)
got-shallow (x ∷ xs) (suc i) limit h = got-shallow xs i limit (omega (arith, h))

item_at-shallow : (xs : List Val) (z : ℤ) (limit : ℕ) → vals_depth (vals_of xs) < limit
    → vals_depth (vals_of (option_to_list (item_at xs z))) < limit
item_at-shallow xs (pos i) limit h = got-shallow xs i limit h
item_at-shallow xs (negsuc i) limit h = omega (arith, h)

picked-shallow : (xs : List Val) (start step : ℤ) (n limit : ℕ) → vals_depth (vals_of xs) < limit
    → vals_depth (vals_of (picked xs start step n)) < limit
picked-shallow xs start step zero limit h = omega (arith, h)
picked-shallow xs start step (suc k) limit h =
    vals_depth-append (picked xs start step k) (option_to_list (item_at xs (start +ℤ pos k *ℤ step))) limit
    (picked-shallow xs start step k limit h) (item_at-shallow xs (start +ℤ pos k *ℤ step) limit h)

-- a slice of a list
pub sliced_tells : (start stop : Option ℤ) (step : ℤ) (xs : List Val) (result : Result Val (List ErrorKind))
    → vals_depth (vals_of xs) < DEPTH_LIMIT
    → TellsFault result (list_made (sliced start stop step xs))
sliced_tells start stop step xs result h =
    let first : ℤ = start_place start step (length xs) in
    let count : ℕ = step_count first (stop_place stop step (length xs)) step in
    shallow_tells (sliced start stop step xs) result (picked-shallow xs first step count DEPTH_LIMIT h)
