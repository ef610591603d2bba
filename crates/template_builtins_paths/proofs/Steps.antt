-- How answers follow one another.
use Rattle.std.proofs.Common.{◌≡◌, inl, inr, List, [], ◌∷◌, Result, Ok, Err, ap}
use Rattle.template_values_errors.specs.declared.ErrorKind.{ErrorKind}
use Rattle.template_values_model.specs.Fault.{Fault}
use Rattle.template_values_model.specs.Gives.{Gives}
use Rattle.template_builtins_arguments.specs.Answers.{Tells, told, then as after}

-- an operation's answer, told by kinds
pub tells_told : {T : Type 0} (r : Result T (List ErrorKind)) (a : Result T Fault) → Gives r a → Tells r (told a)
tells_told (Ok x) a h = ap told h
tells_told (Err kinds) (Ok x) h = elim h [ inl m ↦ inl m | inr e ↦ absurd cc ]
tells_told (Err kinds) (Err fault) h = h

-- a fault of the first part is the whole's
pub tells_after_err : {T U : Type 0} (a : Result T ErrorKind) (f : T → Result U ErrorKind) (kinds : List ErrorKind) → Tells {T = T} (Err kinds) a → Tells {T = U} (Err kinds) (after a f)
tells_after_err (Ok x) f kinds h = elim h [ inl m ↦ inl m | inr e ↦ absurd cc ]
tells_after_err (Err kind) f kinds h = elim h [ inl m ↦ inl m | inr e ↦ inr (let same : kind ∷ [] ≡ kinds = cc in ap Err same) ]

pub after_ok : {T U : Type 0} (a : Result T ErrorKind) (x : T) (f : T → Result U ErrorKind) → a ≡ Ok x → after a f ≡ f x
after_ok a x f e = ap (λ (b : Result _ ErrorKind). after b f) e
