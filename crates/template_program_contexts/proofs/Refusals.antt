-- The first refusal of several.
use Rattle.std.proofs.Common.{◌≡◌, List, Option, None, ap, inl, inr}
use Rattle.std.specs.Option.{option_or}
use Rattle.template_values_errors.specs.declared.ErrorKind.{ErrorKind}
use Rattle.template_values_json.specs.Json.{IsRefusal}

-- the first one is told
pub refusal_first : (first later : Option ErrorKind) (kinds : List ErrorKind) → IsRefusal first kinds → IsRefusal (option_or first later) kinds
refusal_first first later kinds refused = elim refused [
  | inl memory ↦ inl memory
  | inr (kind, is, are) ↦ inr (kind, ap (λ f. option_or f later) is, are)
]

-- where nothing was refused before
pub or_faultless : (first later : Option ErrorKind) → first ≡ None → option_or first later ≡ later
or_faultless first later none = ap (λ f. option_or f later) none

pub refusal_later : (first later : Option ErrorKind) (kinds : List ErrorKind) → first ≡ None → IsRefusal later kinds → IsRefusal (option_or first later) kinds
refusal_later first later kinds none refused = rw none refused
