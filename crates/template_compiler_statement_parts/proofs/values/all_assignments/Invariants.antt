use Rattle.std.proofs.Common.{◌≡◌, length}
use Rattle.template_compiler_tokens.specs.Steps.{all}
use Rattle.template_compiler_grammar.specs.TemplateReaderParts.{more_step}
use Rattle.template_compiler_grammar.specs.TemplateReader.{assignment_by, here}
use Rattle.template_compiler_grammar.specs.Views.{placed_assignments_in}
use Rattle.template_compiler_statement_parts.proofs.values.all_assignments.Given as goal

abbrev pub invariant-loop-refusal : goal.invariant-loop-refusal
invariant-loop-refusal g l =
    (l.tokens.spans ≡ l.initial.tokens.spans) ×
    (all (more_step (assignment_by l.initial.tokens.spans (here l.initial.tokens.spans l.left))) (placed_assignments_in l.pairs.items) l.tokens.left ≡
    all (more_step (assignment_by l.initial.tokens.spans (here l.initial.tokens.spans l.left))) (placed_assignments_in l.initial.pairs.items) l.initial.tokens.left)

abbrev pub decreases-loop-refusal : goal.decreases-loop-refusal
decreases-loop-refusal g l = length l.tokens.left
