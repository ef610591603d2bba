use Rattle.std.proofs.Common.{◌∙◌}
use Rattle.template_compiler_statement_parts.proofs.Rounds.{rounds_end, rounds_go, rounds_refused}
use Rattle.template_compiler_grammar.proofs.TemplatesSound.{values_fall}
use Rattle.template_compiler_statement_parts.proofs.values.all_values.Goals as goal

pub returns-in-Ok-false-clause-parsed : goal.returns-in-Ok-false-clause-parsed
returns-in-Ok-false-clause-parsed g c =
    let ended = rw c.loop-refusal.invariant.0 at (rw c.in-Ok-false.field-0-test at c.in-Ok-false.ensures.parsed) in
    rounds_end _ _ _ _ _ _ _ c.loop-refusal.invariant.1 ended

pub returns-in-Err-clause-parsed : goal.returns-in-Err-clause-parsed
returns-in-Err-clause-parsed g c =
    let now = rw c.loop-refusal.invariant.0 at c.in-Err.ensures.parsed in
    rounds_refused _ _ _ _ _ c.in-Err.refusal c.loop-refusal.invariant.1 now

pub loop-refusal-preserved : goal.loop-refusal-preserved
loop-refusal-preserved g c =
    let more = rw c.loop-refusal.invariant.0 at (rw c.in-Ok-true.field-0-test at c.in-Ok-true.ensures.parsed) in
    (c.in-Ok-true.ensures.spans ∙ c.loop-refusal.invariant.0, rounds_go _ (values_fall _ c.args.left) _ _ _ _ _ _ c.loop-refusal.invariant.1 more)

pub loop-refusal-smaller : goal.loop-refusal-smaller
loop-refusal-smaller g c =
    let more = rw c.in-Ok-true.field-0-test at c.in-Ok-true.ensures.parsed in
    values_fall _ c.args.left _ _ _ _ more
