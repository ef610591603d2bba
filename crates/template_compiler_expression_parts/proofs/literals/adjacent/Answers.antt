use Rattle.std.proofs.Common.{◌∙◌}
use Rattle.template_compiler_grammar.specs.ReaderParts.{text_step}
use Rattle.template_compiler_expression_parts.proofs.Rounds.{rounds_end, rounds_go}
use Rattle.template_compiler_expression_parts.proofs.Takes.{text_takes}
use Rattle.template_compiler_expression_parts.proofs.literals.adjacent.Goals as goal

pub loop-text-preserved : goal.loop-text-preserved
loop-text-preserved c =
    let more = rw c.in-Ok-true.field-0-test at c.in-Ok-true.ensures.passed in
    (c.in-Ok-true.ensures.spans ∙ c.loop-text.invariant.0, rounds_go text_step text_takes _ _ _ _ _ _ c.loop-text.invariant.1 more)

pub loop-text-smaller : goal.loop-text-smaller
loop-text-smaller c =
    let more = rw c.in-Ok-true.field-0-test at c.in-Ok-true.ensures.passed in
    text_takes _ _ _ _ more

pub returns-in-Ok-false-clause-parsed : goal.returns-in-Ok-false-clause-parsed
returns-in-Ok-false-clause-parsed c =
    let ended = rw c.in-Ok-false.field-0-test at c.in-Ok-false.ensures.passed in
    rounds_end text_step _ _ _ _ _ _ c.loop-text.invariant.1 ended
