-- What the calls come to that call functions and methods, or want of memory where they grow something.
use Rattle.std.specs.Prelude.{◌≡◌, ◌⊎◌, List, [], ◌∷◌, Option, None, Some, Result, Ok, Err}
use Rattle.template_values_errors.specs.declared.ErrorKind.{ErrorKind}
use Rattle.template_values_errors.specs.Memory.{NoMemory}
use Rattle.template_values_model.specs.Val.{Val}
use Rattle.template_values_core.specs.Shape.{pairs_in}
use Rattle.template_machine_meaning.specs.Functions as functions
use Rattle.template_machine_meaning.specs.Functions.{gives, makes, compares, function_numbered, invokes, calls, runs_again}
use Rattle.template_machine_operations.specs.declared.called.Called.{Called}
use Rattle.template_machine_operations.specs.declared.called.Called.TheVariants as called

-- the kinds that a call is refused with, if it is
abbrev pub refusal_of : functions.Called → Option (List ErrorKind)
refusal_of (gives (Err kind)) = Some (kind ∷ [])
refusal_of _ = None

-- a call with these arguments comes to this, or no memory is left
abbrev pub Comes : Result Called (List ErrorKind) → List Val → functions.Called → Type 0
Comes (Ok (called.Value v)) args reply = reply ≡ gives (Ok v)
Comes (Ok (called.Namespace entries)) args reply = reply ≡ makes (pairs_in entries.items)
Comes (Ok (called.Changed number)) args reply = reply ≡ compares number args
Comes (Ok (called.Function number)) args reply = reply ≡ invokes (function_numbered number) args
Comes (Ok (called.Macro id number)) args reply = reply ≡ calls id number args
Comes (Ok (called.Rounds id number)) args reply = reply ≡ runs_again id number args
Comes (Err kinds) args reply = NoMemory kinds ⊎ (refusal_of reply ≡ Some kinds)

-- so does a call of a method, where one that is missing comes to that
abbrev pub ComesOr : functions.Called → Result (Option Called) (List ErrorKind) → List Val → functions.Called → Type 0
ComesOr missing (Ok (Some came)) args reply = Comes (Ok came) args reply
ComesOr missing (Ok None) args reply = reply ≡ missing
ComesOr missing (Err kinds) args reply = NoMemory kinds ⊎ (refusal_of reply ≡ Some kinds)
