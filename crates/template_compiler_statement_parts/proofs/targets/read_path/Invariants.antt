use Rattle.std.proofs.Common.{◌≡◌, length}
use Rattle.template_compiler_tokens.specs.Steps.{all}
use Rattle.template_compiler_grammar.specs.TemplateReader.{path_step}
use Rattle.template_compiler_grammar.specs.Views.{node_of}
use Rattle.template_compiler_statement_parts.proofs.targets.read_path.Given as goal

abbrev pub invariant-loop-part : goal.invariant-loop-part
invariant-loop-part l =
    (l.tokens.spans ≡ l.initial.tokens.spans) ×
    (all (path_step l.initial.tokens.spans l.start) (node_of l.target) l.tokens.left ≡
    all (path_step l.initial.tokens.spans l.start) (node_of l.initial.target) l.initial.tokens.left)

abbrev pub decreases-loop-part : goal.decreases-loop-part
decreases-loop-part l = length l.tokens.left
