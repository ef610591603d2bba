use Rattle.std.proofs.Common.{◌≡◌, ◌⊎◌, ℕ, List, Result, Ok, Err, IfErr, IsErrAnd, sym, subst}
use Rattle.template_values_errors.specs.declared.ErrorKind.{ErrorKind}
use Rattle.template_values_errors.specs.Memory.{NoMemory}
use Rattle.template_machine_going.specs.Told.{FaultsSo, stop_of}
use Rattle.template_machine_going.specs.declared.stop.Stop.{Stop}
use Rattle.template_machine_going.proofs.Telling.{told_so}
use Rattle.template_machine_environment.proofs.hosting.EnvironmentTemplates.join.Goals as goal

-- what is stated in the place of a name is a fault, or memory was refused
stated_so : {X : Type 0} (joined : Result (List ℕ) (List ErrorKind)) (kinds : List ErrorKind) (result : Result X Stop) → NoMemory kinds ⊎ (joined ≡ Err kinds)
    → IsErrAnd result (λ stop. stop ≡ stop_of kinds) → IfErr result (FaultsSo (λ ks. joined ≡ Err ks))
stated_so joined kinds (Ok x) why is = absurd is
stated_so joined kinds (Err stop) why is = subst (FaultsSo (λ ks. joined ≡ Err ks)) (sym is) (told_so (λ ks. joined ≡ Err ks) kinds why)

pub returns-in_err-join-in-Some-clause-refused : goal.returns-in_err-join-in-Some-clause-refused
returns-in_err-join-in-Some-clause-refused g c = rw c.in-Some.is (stated_so _ _ c.from_residual.result c.in_err-join-in-Some.ensures c.from_residual.ensures.1)
