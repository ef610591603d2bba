use Rattle.std.proofs.Common.{◌≡◌, length}
use Rattle.template_compiler_tokens.specs.Steps.{all}
use Rattle.template_compiler_grammar.specs.TemplateReaderParts.{more_step}
use Rattle.template_compiler_grammar.specs.Reader.{expression_at}
use Rattle.template_compiler_grammar.specs.TemplateReader.{value_by}
use Rattle.template_compiler_grammar.specs.Views.{nodes_in}
use Rattle.template_compiler_statement_parts.proofs.values.all_values.Given as goal

abbrev pub invariant-loop-refusal : goal.invariant-loop-refusal
invariant-loop-refusal g l =
    (l.tokens.spans ≡ l.initial.tokens.spans) ×
    (all (more_step (value_by l.initial.tokens.spans (expression_at l.initial.tokens.spans l.left))) (nodes_in l.values.items) l.tokens.left ≡
    all (more_step (value_by l.initial.tokens.spans (expression_at l.initial.tokens.spans l.left))) (nodes_in l.initial.values.items) l.initial.tokens.left)

abbrev pub decreases-loop-refusal : goal.decreases-loop-refusal
decreases-loop-refusal g l = length l.tokens.left
