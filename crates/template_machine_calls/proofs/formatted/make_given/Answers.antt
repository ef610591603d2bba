use Rattle.std.proofs.Common.{Ok, refl, subst}
use Rattle.template_callables.specs.Formats.{Formats}
use Rattle.template_callables.specs.declared.format.FormatAnswer.{FormatAnswer}
use Rattle.template_machine_calls.proofs.Formatting.{err_made, given_escaped, given_fault, given_raw, made_as}
use Rattle.template_machine_calls.proofs.formatted.make_given.Goals as goal

pub returns-in-Raw : goal.returns-in-Raw
returns-in-Raw c stated states =
    given_raw c.args.state.now stated c.in-Raw.raw _ (subst (λ (k : FormatAnswer). Formats stated k) c.in-Raw.is states) refl

pub returns-in_err-make_text-in-Escaped : goal.returns-in_err-make_text-in-Escaped
returns-in_err-make_text-in-Escaped c stated states =
    given_escaped c.args.state.now stated c.in-Escaped.other _ _ (subst (λ (k : FormatAnswer). Formats stated k) c.in-Escaped.is states)
    (err_made c.args.state.now c.in-Escaped.other _ _ _ _ c.auto_escape.ensures c.in_err-make_text-in-Escaped.ensures c.from_residual.ensures.1)

pub returns-in_ok-make_text-in-Escaped : goal.returns-in_ok-make_text-in-Escaped
returns-in_ok-make_text-in-Escaped c stated states =
    given_escaped c.args.state.now stated c.in-Escaped.other (Ok tt) _ (subst (λ (k : FormatAnswer). Formats stated k) c.in-Escaped.is states)
    (made_as c.args.state.now c.in-Escaped.other _ (Ok tt) _ c.auto_escape.ensures c.in_ok-make_text-in-Escaped.ensures)

pub returns-in-Fault : goal.returns-in-Fault
returns-in-Fault c stated states =
    given_fault c.args.state.now stated _ _ (subst (λ (k : FormatAnswer). Formats stated k) c.in-Fault.is states) c.into.ensures
