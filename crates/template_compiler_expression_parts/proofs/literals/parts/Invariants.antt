use Rattle.std.proofs.Common.{◌≡◌, length, string_bytes}
use Rattle.template_compiler_grammar.specs.ReaderParts.{dotted_step}
use Rattle.template_compiler_tokens.specs.Steps.{all}
use Rattle.template_compiler_expression_parts.proofs.literals.parts.Given as goal

abbrev pub invariant-loop-part : goal.invariant-loop-part
invariant-loop-part l =
    (l.tokens.spans ≡ l.initial.tokens.spans) ×
    (all dotted_step (string_bytes l.name) l.tokens.left ≡ all dotted_step (string_bytes l.initial.name) l.initial.tokens.left)

abbrev pub decreases-loop-part : goal.decreases-loop-part
decreases-loop-part l = length l.tokens.left
