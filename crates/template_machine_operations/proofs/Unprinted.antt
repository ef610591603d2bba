-- A value that is refused is no failure of the sink.
use Rattle.std.proofs.Common.{◌≡◌, ℕ, List, [], ◌∷◌, Result, Ok, Err, refl, sym, ◌∙◌, subst, inl, inr}
use Rattle.template_values_errors.specs.declared.ErrorKind.{ErrorKind}
use Rattle.template_values_errors.specs.declared.ErrorKind.TheVariants.{WriteFailure}
use Rattle.template_values_model.specs.Fault.{Fault, kind_of, invalid_operation, bad_serialization, missing_argument}
use Rattle.template_values_forms.specs.Answers.{AppendsOrRefuses}
use Rattle.template_machine_operations.specs.Outcomes.{TellsFailures}

no_writer : (fault : Fault) → kind_of fault ∷ [] ≡ WriteFailure ∷ [] → ⊥
no_writer invalid_operation is = cc
no_writer bad_serialization is = cc
no_writer missing_argument is = cc

no_failure : (made : Result (List ℕ) Fault) (before : List ℕ) (kinds : List ErrorKind) (after : List ℕ) → AppendsOrRefuses before made (Err kinds) after → kinds ≡ WriteFailure ∷ [] → ⊥
no_failure (Ok s) before kinds after refused is = let memory = refused.0 in cc
no_failure (Err fault) before kinds after (inl same, kept) is = no_writer fault (sym same ∙ is)
no_failure (Err fault) before kinds after (inr memory, kept) is = cc

pub tells_nothing : {X : Type 0} (made : Result (List ℕ) Fault) (before : List ℕ) (kinds : List ErrorKind) (after : List ℕ) (result : Result X (List ErrorKind)) (count : ℕ)
    → AppendsOrRefuses before made (Err kinds) after → result ≡ Err kinds → TellsFailures result count count
tells_nothing {X} made before kinds after result count refused is =
    subst (λ (r : Result X (List ErrorKind)). TellsFailures r count count) (sym is)
    (inr (no_failure made before kinds after refused, refl))
