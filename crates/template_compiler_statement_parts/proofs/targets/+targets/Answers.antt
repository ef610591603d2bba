use Rattle.std.proofs.Common.{◌-◌, sym, ◌∙◌, subst, arith}
use Rattle.template_compiler_grammar.specs.TemplateReader.{inner_targets}
use Rattle.template_compiler_grammar.specs.Views.{node_of}
use Rattle.template_compiler_statement_parts.specs.Parsed.{ParsedNode}
use Rattle.template_compiler_grammar.proofs.TemplatesSound.{targets_fall}
use Rattle.template_compiler_statement_parts.proofs.Placed.{alone, inner_less}
use Rattle.template_compiler_statement_parts.proofs.Rounds.{rounds_end, rounds_go, rounds_refused}
use Rattle.template_compiler_statement_parts.proofs.targets.+targets.Goals as goal

pub all_targets-returns-in-Ok-false-clause-parsed : goal.all_targets-returns-in-Ok-false-clause-parsed
all_targets-returns-in-Ok-false-clause-parsed t c =
    let ended = rw c.loop-refusal.invariant.0 at (rw c.in-Ok-false.field-0-test at c.in-Ok-false.ensures.parsed) in
    rounds_end _ _ _ _ _ _ _ c.loop-refusal.invariant.1 ended

pub all_targets-returns-in-Err-clause-parsed : goal.all_targets-returns-in-Err-clause-parsed
all_targets-returns-in-Err-clause-parsed t c =
    let now = rw c.loop-refusal.invariant.0 at c.in-Err.ensures.parsed in
    rounds_refused _ _ _ _ _ c.in-Err.refusal c.loop-refusal.invariant.1 now

pub all_targets-loop-refusal-preserved : goal.all_targets-loop-refusal-preserved
all_targets-loop-refusal-preserved t c =
    let more = rw c.loop-refusal.invariant.0 at (rw c.in-Ok-true.field-0-test at c.in-Ok-true.ensures.parsed) in (
      c.in-Ok-true.ensures.spans ∙ c.loop-refusal.invariant.0,
      rounds_go _ (targets_fall _ c.args.dots c.args.left) _ _ _ _ _ _ c.loop-refusal.invariant.1 more,
    )

pub all_targets-loop-refusal-smaller : goal.all_targets-loop-refusal-smaller
all_targets-loop-refusal-smaller t c =
    let more = rw c.in-Ok-true.field-0-test at c.in-Ok-true.ensures.parsed in
    targets_fall _ c.args.dots c.args.left _ _ _ _ more

pub read_inner_targets-returns-else-left-eq0-clause-parsed : goal.read_inner_targets-returns-else-left-eq0-clause-parsed
read_inner_targets-returns-else-left-eq0-clause-parsed t c =
    subst (λ m. ParsedNode m c.read_targets.new.tokens.left c.read_targets.result)
    (sym (inner_less c.args.tokens.now.spans c.args.dots c.args.left (c.args.left - 1) c.args.tokens.now.left (omega arith)))
    c.read_targets.ensures.parsed

pub read_more_targets-returns-else-begins_more-clause-parsed : goal.read_more_targets-returns-else-begins_more-clause-parsed
read_more_targets-returns-else-begins_more-clause-parsed t c =
    let spans = c.args.tokens.now.spans in
    alone spans c.args.dots (inner_targets spans c.args.dots c.args.left) c.args.start (node_of c.args.first) c.args.tokens.now.left
    (sym c.begins_more.ensures ∙ c.if-begins_more.false)
