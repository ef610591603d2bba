use Rattle.std.proofs.Common.{◌≡◌, length}
use Rattle.template_compiler_grammar.specs.Reader.{deeper, chain_step}
use Rattle.template_compiler_grammar.specs.Views.{optional_node_in}
use Rattle.template_compiler_tokens.specs.Steps.{all}
use Rattle.template_compiler_expression_parser.proofs.read.chain.Given as goal

abbrev pub invariant-loop-alloc : goal.invariant-loop-alloc
invariant-loop-alloc l =
    (l.tokens.spans ≡ l.initial.tokens.spans) ×
    (all (chain_step l.initial.tokens.spans (deeper l.initial.tokens.spans l.left)) (optional_node_in l.value) l.tokens.left ≡
    all (chain_step l.initial.tokens.spans (deeper l.initial.tokens.spans l.left)) (optional_node_in l.initial.value) l.initial.tokens.left)

abbrev pub decreases-loop-alloc : goal.decreases-loop-alloc
decreases-loop-alloc l = length l.tokens.left
