use Rattle.std.proofs.Common.{sym}
use Rattle.template_compiler_statement_makers.proofs.Openings.{no_opening}
use Rattle.template_compiler_statement_makers.proofs.opening.other_opening.Goals as goal

pub returns-in_default : goal.returns-in_default
returns-in_default c =
    let h = c.in_default in
    sym (no_opening c.args.word.now h.not-from h.not-extends h.not-include h.not-macro h.not-call h.not-do h.not-break h.not-continue)
