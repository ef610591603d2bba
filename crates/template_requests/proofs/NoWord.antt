-- A word that is none of those that are known.
use Rattle.std.proofs.Common.{◌≡◌, ◌∙◌, ℕ, List, None, Some, false, if◌then◌else◌, codes, bytes_eq, refl, sym, ap}
use Rattle.std.proofs.lemmas.Bool.{false_from_ne_true}
use Rattle.std.proofs.lemmas.Slice.Eq.{bytes_eq-Decides}
use Rattle.template_values_errors.specs.declared.modes.AutoEscape.TheVariants.{Html, Json}
use Rattle.template_values_errors.specs.declared.modes.UndefinedBehavior.TheVariants.{Lenient, Chainable, SemiStrict, Strict}
use Rattle.template_values_json.specs.declared.contexts.Floats.TheVariants.{Refused, AsSpelled}
use Rattle.template_machine_surroundings.specs.declared.escape.EscapeRule.TheVariants.{ByName, Never, Fixed}
use Rattle.template_requests.specs.Words.{escape_named, floats_named, mode_named}

not_named : (w n : List ℕ) → (n ≡ w → ⊥) → bytes_eq w n ≡ false
not_named w n h = false_from_ne_true (bytes_eq w n) (λ e. h (sym ((bytes_eq-Decides w n).0 e)))

else_of : {A : Type 0} (x : A) {y z : A} (w n : List ℕ) → (n ≡ w → ⊥) → y ≡ z → (if bytes_eq w n then x else y) ≡ z
else_of x {y = y} w n h k = ap (λ b. if b then x else y) (not_named w n h) ∙ k

pub no_mode : (n : List ℕ) → (n ≡ codes "lenient" → ⊥) → (n ≡ codes "chainable" → ⊥) → (n ≡ codes "semistrict" → ⊥)
    → (n ≡ codes "strict" → ⊥) → mode_named n ≡ None
no_mode n a b c d =
    else_of (Some Lenient) (codes "lenient") n a (else_of (Some Chainable) (codes "chainable") n b
    (else_of (Some SemiStrict) (codes "semistrict") n c (else_of (Some Strict) (codes "strict") n d refl)))

pub no_escape : (n : List ℕ) → (n ≡ codes "none" → ⊥) → (n ≡ codes "html" → ⊥) → (n ≡ codes "json" → ⊥)
    → (n ≡ codes "name" → ⊥) → escape_named n ≡ None
no_escape n a b c d =
    else_of (Some Never) (codes "none") n a (else_of (Some (Fixed Html)) (codes "html") n b
    (else_of (Some (Fixed Json)) (codes "json") n c (else_of (Some ByName) (codes "name") n d refl)))

pub no_floats : (n : List ℕ) → (n ≡ codes "refused" → ⊥) → (n ≡ codes "text" → ⊥) → floats_named n ≡ None
no_floats n a b = else_of (Some Refused) (codes "refused") n a (else_of (Some AsSpelled) (codes "text") n b refl)
