-- Lists that are made of the items of lists nest no deeper than those, so they are never refused.
use Rattle.std.proofs.Common.{◌≡◌, ℕ, ◌<◌, List, [], ◌∷◌, ◌++◌, Result, Ok, arith}
use Rattle.std.proofs.lemmas.Bool.Decides.{nat_tests}
use Rattle.template_values_errors.specs.declared.ErrorKind.{ErrorKind}
use Rattle.template_values_model.specs.declared.TheConstants.{DEPTH_LIMIT}
use Rattle.template_values_model.specs.Gives.{TellsFault}
use Rattle.template_values_model.specs.Val.{Val, list, vals_of}
use Rattle.template_values_core.specs.Depth.{vals_depth}
use Rattle.template_values_operators.specs.Kinds.{list_made}

pub vals_depth-append : (xs ys : List Val) (limit : ℕ) → vals_depth (vals_of xs) < limit → vals_depth (vals_of ys) < limit
    → vals_depth (vals_of (xs ++ ys)) < limit
vals_depth-append [] ys limit h k = k
vals_depth-append (x ∷ xs) ys limit h k = omega (arith, h, vals_depth-append xs ys limit (omega (arith, h)) k)

pub list_made-shallow : (vs : List Val) → vals_depth (vals_of vs) < DEPTH_LIMIT → list_made vs ≡ Ok (list (vals_of vs))
list_made-shallow vs h = grind (arith, nat_tests)

pub shallow_tells : (vs : List Val) (result : Result Val (List ErrorKind)) → vals_depth (vals_of vs) < DEPTH_LIMIT
    → TellsFault result (list_made vs)
shallow_tells vs result h = rw (list_made-shallow vs h) tt

-- two lists one behind the other
pub joined_tells : (xs ys : List Val) (result : Result Val (List ErrorKind)) → vals_depth (vals_of xs) < DEPTH_LIMIT
    → vals_depth (vals_of ys) < DEPTH_LIMIT
    → TellsFault result (list_made (xs ++ ys))
joined_tells xs ys result h k = shallow_tells (xs ++ ys) result (vals_depth-append xs ys DEPTH_LIMIT h k)
