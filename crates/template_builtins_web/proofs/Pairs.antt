-- Lemmas on pairs.
use Rattle.std.proofs.Common.{◌≡◌, ◌≢◌, ℕ, List, [], ◌∷◌, length, get_or, refl, sym, ap, ◌∙◌, ◌⊎◌, inl, inr, arith, Result, Ok, Err}
use Rattle.template_values_errors.specs.declared.ErrorKind.{ErrorKind}
use Rattle.template_values_errors.specs.Memory.{NoMemory}
use Rattle.template_values_model.specs.Val.{Val, vals_of}
use Rattle.template_callables.specs.Callables.{View}
use Rattle.template_builtins_arguments.specs.Answers.{refused, single, then as after}
use Rattle.template_builtins_web.specs.Pieces.{followed}
use Rattle.template_builtins_web.specs.Queries.{pair_text, two_text}

pub two_is : (view : View) (before : List ℕ) (vs : List Val) (k v : Val) → length vs ≡ 2 → k ≡ get_or vs 0 k → v ≡ get_or vs 1 v
    → two_text view before (vals_of vs) ≡ pair_text view before k v
two_is view before [] k v two first second = absurd (omega (arith, two))
two_is view before (a ∷ []) k v two first second = absurd (omega (arith, two))
two_is view before (a ∷ b ∷ []) k v two first second =
    ap (λ (x : Val). pair_text view before x b) (sym first) ∙ ap (λ (x : Val). pair_text view before k x) (sym second)
two_is view before (a ∷ b ∷ c ∷ vs) k v two first second = absurd (omega (arith, two))

pub two_else : (view : View) (before : List ℕ) (vs : List Val) → length vs ≢ 2 → two_text view before (vals_of vs) ≡ refused
two_else view before [] other = refl
two_else view before (a ∷ []) other = refl
two_else view before (a ∷ b ∷ []) other = absurd (other refl)
two_else view before (a ∷ b ∷ c ∷ vs) other = refl

-- the second of two texts is refused
pub second_refused : (first second : Result (List ℕ) ErrorKind) (whole s : List ℕ) (make : List ℕ → List ℕ → List ℕ) (kinds : List ErrorKind)
    → first ≡ Ok s → NoMemory kinds ⊎ (single second ≡ Err kinds)
    → NoMemory kinds ⊎ (single (followed (Ok whole) (after first (λ a. after second (λ b. Ok (make a b))))) ≡ Err kinds)
second_refused (Ok a) (Ok b) whole s make kinds made (inl memory) = inl memory
second_refused (Ok a) (Ok b) whole s make kinds made (inr why) = absurd cc
second_refused (Ok a) (Err kind) whole s make kinds made why = why
second_refused (Err kind) second whole s make kinds made why = absurd cc
