-- What the calls of values answer is what replies to events say.
use Rattle.std.proofs.Common.{◌≡◌, List, Result, Ok, Err, refl, ap, ◌∙◌, inl, inr}
use Rattle.template_values_errors.specs.declared.ErrorKind.{ErrorKind}
use Rattle.template_values_model.specs.Fault.{Fault}
use Rattle.template_values_model.specs.Gives.{Gives, alone}
use Rattle.template_machine_meaning.specs.Replies.{kinded}
use Rattle.template_machine_operations.specs.Answers.{Answers, answered}

pub answered-kinded : {T : Type 0} (answer : Result T Fault) → answered (kinded answer) ≡ alone answer
answered-kinded (Ok x) = refl
answered-kinded (Err fault) = refl

pub gives_answers : {T : Type 0} (result : Result T (List ErrorKind)) (answer : Result T Fault) → Gives result answer → Answers result (kinded answer)
gives_answers (Ok x) answer p = ap kinded p
gives_answers (Err kinds) answer (inl memory) = inl memory
gives_answers (Err kinds) answer (inr p) = inr (answered-kinded answer ∙ p)
