use Rattle.std.proofs.Common.{sym, ◌∙◌}
use Rattle.template_compiler_statement_makers.proofs.Openings.{later_opening}
use Rattle.template_compiler_statement_makers.proofs.opening.first_opening.Goals as goal

pub returns-in_default : goal.returns-in_default
returns-in_default c =
    let h = c.in_default in
    c.other_opening.ensures ∙
    sym (later_opening c.args.word.now h.not-for h.not-if h.not-with h.not-set h.not-autoescape h.not-filter h.not-block h.not-import)
