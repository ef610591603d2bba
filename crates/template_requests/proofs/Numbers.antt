-- A member as a number.
use Rattle.std.proofs.Common.{◌≡◌, ℕ, List, Option, None, Some, IfSome, IsSomeAnd, MatchOption, ap}
use Rattle.std.specs.Prelude.{ok_or}
use Rattle.std.specs.Str.Parse.{ParsesUnsigned, digits_value, without_leading_plus}
use Rattle.template_requests.specs.Members.{IsWhole}

-- what `as_u64` gives of the text of a number, if the member is one
pub number_found : (text : Option (List ℕ)) (found : Option ℕ) → MatchOption text (found ≡ None) (λ s. ParsesUnsigned 64 10 s (ok_or found s))
    → MatchOption found (IfSome text (λ s. ¬ IsWhole s)) (λ n. IsSomeAnd text (λ s. IsWhole s × (Some n ≡ Some (digits_value 10 (without_leading_plus s)))))
number_found None None h = tt
number_found None (Some n) h = cc
number_found (Some s) None h = h
number_found (Some s) (Some n) h = (h.0, ap Some h.1)
