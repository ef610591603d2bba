-- How the calls that answer a template's events answer: exactly, or with want of memory where they grow something.
use Rattle.std.specs.Prelude.{◌≡◌, List, [], ◌∷◌, Result, Ok, Err, MatchResult, ◌⊎◌}
use Rattle.template_values_errors.specs.declared.ErrorKind.{ErrorKind}
use Rattle.template_values_errors.specs.Memory.{NoMemory}
use Rattle.template_machine_meaning.specs.Spreads.{one_behind}

-- the reply as a program gives it: a fault's kind stands alone
abbrev pub answered : {T : Type 0} → Result T ErrorKind → Result T (List ErrorKind)
answered (Ok value) = Ok value
answered (Err kind) = Err (kind ∷ [])

-- the call gives exactly this reply, or no memory is left
abbrev pub Answers : {T : Type 0} → Result T (List ErrorKind) → Result T ErrorKind → Type 0
Answers result reply = MatchResult result (λ value. reply ≡ Ok value) (λ kinds. NoMemory kinds ⊎ (answered reply ≡ Err kinds))

-- what the reply gives is put behind what was there; or the call refuses with its kind, or no memory is left
abbrev pub Adds : {X A : Type 0} → Result X (List ErrorKind) → List A → List A → Result (List A) ErrorKind → Type 0
Adds (Ok x) before after reply = one_behind (Ok before) reply ≡ Ok after
Adds (Err kinds) before after reply = NoMemory kinds ⊎ (answered reply ≡ Err kinds)
