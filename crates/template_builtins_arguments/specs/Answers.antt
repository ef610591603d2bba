-- What a builtin answers: a value, or one fault.
use Rattle.std.specs.Prelude.{◌≡◌, ◌⊎◌, List, [], ◌∷◌, Result, Ok, Err, MatchResult}
use Rattle.template_values_errors.specs.declared.ErrorKind.{ErrorKind}
use Rattle.template_values_errors.specs.declared.ErrorKind.TheVariants.{InvalidOperation}
use Rattle.template_values_errors.specs.Memory.{NoMemory}
use Rattle.template_values_model.specs.Fault.{Fault, kind_of}
use Rattle.template_values_model.specs.Val.{Val}
use Rattle.template_callables.specs.Callables.{Stated, finishes, refuses}

-- what a builtin comes to: a value, or a fault by its kind
abbrev pub Made : Type 0
Made = Result Val ErrorKind

-- what comes of a first part, where that gives something
abbrev pub then : {T U : Type 0} → Result T ErrorKind → (T → Result U ErrorKind) → Result U ErrorKind
then (Ok x) f = f x
then (Err kind) f = Err kind

-- what an operation on values gives
abbrev pub told : {T : Type 0} → Result T Fault → Result T ErrorKind
told (Ok x) = Ok x
told (Err fault) = Err (kind_of fault)

abbrev pub refused : {T : Type 0} → Result T ErrorKind
refused = Err InvalidOperation

-- the answer as a program gives it: a fault's kind stands alone
abbrev pub single : {T : Type 0} → Result T ErrorKind → Result T (List ErrorKind)
single (Ok x) = Ok x
single (Err kind) = Err (kind ∷ [])

-- the call gives exactly this, or memory was refused
abbrev pub Tells : {T : Type 0} → Result T (List ErrorKind) → Result T ErrorKind → Type 0
Tells result answer = MatchResult result (λ x. answer ≡ Ok x) (λ kinds. NoMemory kinds ⊎ (single answer ≡ Err kinds))

-- the same of a call whose result stands for this
abbrev pub TellsAs : {T U : Type 0} → (T → U) → Result T (List ErrorKind) → Result U ErrorKind → Type 0
TellsAs f result answer = MatchResult result (λ x. answer ≡ Ok (f x)) (λ kinds. NoMemory kinds ⊎ (single answer ≡ Err kinds))

-- what a callable states
abbrev pub answered : Made → Stated
answered (Ok v) = finishes [] v
answered (Err kind) = refuses (kind ∷ [])
