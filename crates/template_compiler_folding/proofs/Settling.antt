-- A call that answers exactly gives its answer.
use Rattle.std.proofs.Common.{◌≡◌, inr, List, Result, Ok, Err, refl, sym, subst}
use Rattle.template_values_errors.specs.declared.ErrorKind.{ErrorKind}
use Rattle.template_values_model.specs.Fault.{Fault}
use Rattle.template_values_model.specs.Gives.{Gives, alone}
use Rattle.template_values_model.specs.Val.{Val}

pub gives_alone : (answer : Result Val Fault) (result : Result Val (List ErrorKind)) → result ≡ alone answer → Gives result answer
gives_alone (Ok v) result h = subst (λ (r : Result Val (List ErrorKind)). Gives r (Ok v)) (sym h) refl
gives_alone (Err fault) result h = subst (λ (r : Result Val (List ErrorKind)). Gives r (Err fault)) (sym h) (inr refl)
