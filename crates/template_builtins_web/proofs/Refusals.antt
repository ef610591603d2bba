-- Which of two refusals comes first.
use Rattle.std.proofs.Common.{◌≡◌, ◌⊎◌, inl, inr, ℕ, List, [], ◌∷◌, ap, Result, Ok, Err}
use Rattle.template_values_errors.specs.declared.ErrorKind.{ErrorKind}
use Rattle.template_values_errors.specs.Memory.{NoMemory}
use Rattle.template_values_model.specs.Val.{Val}
use Rattle.template_builtins_arguments.specs.Answers.{single, then as after}

-- a second part is refused where the first is not
pub refused_later : {D L : Type 0} (first : Result D ErrorKind) (second : Result L ErrorKind) (text : D → List ℕ) (s : List ℕ) (make : D → L → Val) (kinds : List ErrorKind)
    → after first (λ d. Ok (text d)) ≡ Ok s → NoMemory kinds ⊎ (single second ≡ Err kinds)
    → NoMemory kinds ⊎ (single (after first (λ d. after second (λ l. Ok (make d l)))) ≡ Err kinds)
refused_later (Ok d) second text s make kinds made (inl memory) = inl memory
refused_later (Ok d) (Ok l) text s make kinds made (inr why) = absurd cc
refused_later (Ok d) (Err kind) text s make kinds made (inr why) = let same : kind ∷ [] ≡ kinds = cc in inr (ap Err same)
refused_later (Err kind) second text s make kinds made why = absurd cc
