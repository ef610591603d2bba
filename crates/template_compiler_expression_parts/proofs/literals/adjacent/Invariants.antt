use Rattle.std.proofs.Common.{◌≡◌, length, string_bytes}
use Rattle.template_compiler_grammar.specs.ReaderParts.{text_step}
use Rattle.template_compiler_tokens.specs.Steps.{all}
use Rattle.template_compiler_expression_parts.proofs.literals.adjacent.Given as goal

abbrev pub invariant-loop-text : goal.invariant-loop-text
invariant-loop-text l =
    (l.tokens.spans ≡ l.initial.tokens.spans) ×
    (all text_step (string_bytes l.text) l.tokens.left ≡ all text_step (string_bytes l.initial.text) l.initial.tokens.left)

abbrev pub decreases-loop-text : goal.decreases-loop-text
decreases-loop-text l = length l.tokens.left
