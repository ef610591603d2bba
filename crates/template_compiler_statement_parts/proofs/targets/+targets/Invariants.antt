use Rattle.std.proofs.Common.{◌≡◌, ◌+◌, ◌*◌, length}
use Rattle.template_compiler_tokens.specs.Steps.{all}
use Rattle.template_compiler_grammar.specs.TemplateReaderParts.{more_step}
use Rattle.template_compiler_grammar.specs.TemplateReader.{one_target_by, inner_targets}
use Rattle.template_compiler_grammar.specs.Views.{nodes_in}
use Rattle.template_compiler_statement_parts.proofs.targets.+targets.Given as goal

abbrev pub decreases-read_target : goal.decreases-read_target
decreases-read_target l = 8 * l.left + 2

abbrev pub decreases-read_inner_targets : goal.decreases-read_inner_targets
decreases-read_inner_targets l = 8 * l.left + 1

abbrev pub decreases-read_targets : goal.decreases-read_targets
decreases-read_targets l = 8 * l.left + 7

abbrev pub decreases-read_more_targets : goal.decreases-read_more_targets
decreases-read_more_targets l = 8 * l.left + 6

abbrev pub decreases-several_targets : goal.decreases-several_targets
decreases-several_targets l = 8 * l.left + 5

abbrev pub decreases-all_targets : goal.decreases-all_targets
decreases-all_targets l = 8 * l.left + 4

abbrev pub decreases-next_target : goal.decreases-next_target
decreases-next_target l = 8 * l.left + 3

abbrev pub invariant-all_targets-loop-refusal : goal.invariant-all_targets-loop-refusal
invariant-all_targets-loop-refusal l =
    (l.tokens.spans ≡ l.initial.tokens.spans) ×
    (all (more_step (one_target_by l.initial.tokens.spans l.dots (inner_targets l.initial.tokens.spans l.dots l.left)))
    (nodes_in l.targets.items) l.tokens.left ≡
    all (more_step (one_target_by l.initial.tokens.spans l.dots (inner_targets l.initial.tokens.spans l.dots l.left)))
    (nodes_in l.initial.targets.items) l.initial.tokens.left)

abbrev pub decreases-all_targets-loop-refusal : goal.decreases-all_targets-loop-refusal
decreases-all_targets-loop-refusal l = length l.tokens.left
