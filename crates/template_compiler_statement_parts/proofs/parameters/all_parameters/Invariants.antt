use Rattle.std.proofs.Common.{◌≡◌, length}
use Rattle.template_compiler_tokens.specs.Steps.{all}
use Rattle.template_compiler_grammar.specs.TemplateReaderParts.{more_step}
use Rattle.template_compiler_grammar.specs.Reader.{expression_at}
use Rattle.template_compiler_grammar.specs.TemplateReader.{parameter_by}
use Rattle.template_compiler_statement_parts.specs.Written.{placed_parameters_of}
use Rattle.template_compiler_statement_parts.proofs.parameters.all_parameters.Given as goal

abbrev pub invariant-loop-refusal : goal.invariant-loop-refusal
invariant-loop-refusal g l =
    (l.tokens.spans ≡ l.initial.tokens.spans) ×
    (all (more_step (parameter_by l.initial.tokens.spans (expression_at l.initial.tokens.spans l.left))) (placed_parameters_of l.parameters) l.tokens.left ≡
    all (more_step (parameter_by l.initial.tokens.spans (expression_at l.initial.tokens.spans l.left))) (placed_parameters_of l.initial.parameters) l.initial.tokens.left)

abbrev pub decreases-loop-refusal : goal.decreases-loop-refusal
decreases-loop-refusal g l = length l.tokens.left
