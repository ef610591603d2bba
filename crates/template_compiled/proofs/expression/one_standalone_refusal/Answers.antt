use Rattle.template_compiled.proofs.Refusals.{one_standalone_refusal, accepted_or_refused_alone}
use Rattle.template_compiled.proofs.expression.one_standalone_refusal.Goals as goal

pub returns-clause-one : goal.returns-clause-one
returns-clause-one c = one_standalone_refusal

pub returns-clause-accepted : goal.returns-clause-accepted
returns-clause-accepted c = accepted_or_refused_alone
