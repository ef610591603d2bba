use Rattle.template_compiled.proofs.Refusals.{one_refusal, accepted_or_refused}
use Rattle.template_compiled.proofs.compiled.one_refusal.Goals as goal

pub returns-clause-one : goal.returns-clause-one
returns-clause-one c = one_refusal

pub returns-clause-accepted : goal.returns-clause-accepted
returns-clause-accepted c = accepted_or_refused
