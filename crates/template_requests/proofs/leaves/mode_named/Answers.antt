use Rattle.std.proofs.Common.{ap, sym}
use Rattle.template_requests.specs.Words.{mode_named}
use Rattle.template_requests.proofs.NoWord.{no_mode}
use Rattle.template_requests.proofs.leaves.mode_named.Goals as goal

pub returns-in-lenient : goal.returns-in-lenient
returns-in-lenient c = ap mode_named (sym c.in-lenient.is)

pub returns-in-chainable : goal.returns-in-chainable
returns-in-chainable c = ap mode_named (sym c.in-chainable.is)

pub returns-in-semistrict : goal.returns-in-semistrict
returns-in-semistrict c = ap mode_named (sym c.in-semistrict.is)

pub returns-in-strict : goal.returns-in-strict
returns-in-strict c = ap mode_named (sym c.in-strict.is)

pub returns-in_default : goal.returns-in_default
returns-in_default c =
    sym (no_mode c.args.word.now c.in_default.not-lenient c.in_default.not-chainable c.in_default.not-semistrict c.in_default.not-strict)
