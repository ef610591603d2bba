use Rattle.std.proofs.Common.{◌≡◌, ℕ, ◌+◌, ◌*◌, length}
use Rattle.template_compiler_grammar.specs.Nodes.{no_placed_links, no_placed_pairs, no_placed_written}
use Rattle.template_compiler_grammar.specs.Views.{node_of, nodes_in, placed_links_in}
use Rattle.template_compiler_grammar.specs.Reader.{deeper, expression_by, operand_by, operand_step, part_step, filter_step, link_step, terms_by, items_step, pairs_step, arguments_step}
use Rattle.template_compiler_grammar.specs.Words.{Level, factors, texts, terms, conjunction, disjunction}
use Rattle.template_compiler_tokens.specs.Steps.{all}
use Rattle.template_compiler_stream.specs.Signs.{level_of}
use Rattle.template_compiler_expression_parts.specs.Parsed.{paired_in, written_in}
use Rattle.template_compiler_expression_parser.proofs.expressions.+parser.Given as goal

-- how many calls deep a level's operands are at most
abbrev pub height : Level → ℕ
height factors = 24
height texts = 28
height terms = 32
height conjunction = 44
height disjunction = 48

abbrev pub decreases-binary : goal.decreases-binary
decreases-binary l = 100 * l.left + (height (level_of l.level) + 3)

abbrev pub decreases-operands : goal.decreases-operands
decreases-operands l = 100 * l.left + (height (level_of l.level) + 2)

abbrev pub decreases-operand : goal.decreases-operand
decreases-operand l = 100 * l.left + height (level_of l.level)

abbrev pub decreases-expression : goal.decreases-expression
decreases-expression l = 100 * l.left + 60

abbrev pub decreases-choice : goal.decreases-choice
decreases-choice l = 100 * l.left + 58

abbrev pub decreases-sum : goal.decreases-sum
decreases-sum l = 100 * l.left + 36

abbrev pub decreases-sum_behind : goal.decreases-sum_behind
decreases-sum_behind l = 100 * l.left + 35

abbrev pub decreases-comparison_behind : goal.decreases-comparison_behind
decreases-comparison_behind l = 100 * l.left + 41

abbrev pub decreases-branches : goal.decreases-branches
decreases-branches l = 100 * l.left + 62

abbrev pub decreases-negation : goal.decreases-negation
decreases-negation l = 100 * l.left + 43

abbrev pub decreases-links : goal.decreases-links
decreases-links l = 100 * l.left + 40

abbrev pub decreases-next_link : goal.decreases-next_link
decreases-next_link l = 100 * l.left + 39

abbrev pub decreases-next_not_in : goal.decreases-next_not_in
decreases-next_not_in l = 100 * l.left + 38

abbrev pub decreases-put_link : goal.decreases-put_link
decreases-put_link l = 100 * l.left + 37

abbrev pub decreases-power : goal.decreases-power
decreases-power l = 100 * l.left + 22

abbrev pub decreases-power_behind : goal.decreases-power_behind
decreases-power_behind l = 100 * l.left + 21

abbrev pub decreases-filters : goal.decreases-filters
decreases-filters l = 100 * l.left + 20

abbrev pub decreases-next_filter : goal.decreases-next_filter
decreases-next_filter l = 100 * l.left + 19

abbrev pub decreases-piped : goal.decreases-piped
decreases-piped l = 100 * l.left + 18

abbrev pub decreases-asked : goal.decreases-asked
decreases-asked l = 100 * l.left + 18

abbrev pub decreases-test : goal.decreases-test
decreases-test l = 100 * l.left + 17

abbrev pub decreases-bare_test : goal.decreases-bare_test
decreases-bare_test l = 100 * l.left + 16

abbrev pub decreases-plain_test : goal.decreases-plain_test
decreases-plain_test l = 100 * l.left + 16

abbrev pub decreases-operators : goal.decreases-operators
decreases-operators l = 100 * l.left + 42

abbrev pub decreases-negative : goal.decreases-negative
decreases-negative l = 100 * l.left + 16

abbrev pub decreases-unary : goal.decreases-unary
decreases-unary l = 100 * l.left + 15

abbrev pub decreases-parts : goal.decreases-parts
decreases-parts l = 100 * l.left + 13

abbrev pub decreases-next_part : goal.decreases-next_part
decreases-next_part l = 100 * l.left + 12

abbrev pub decreases-primary : goal.decreases-primary
decreases-primary l = 100 * l.left + 8

abbrev pub decreases-filter : goal.decreases-filter
decreases-filter l = 100 * l.left + 6

abbrev pub decreases-optional_arguments : goal.decreases-optional_arguments
decreases-optional_arguments l = 100 * l.left + 5

abbrev pub decreases-call : goal.decreases-call
decreases-call l = 100 * l.left + 82

abbrev pub decreases-arguments : goal.decreases-arguments
decreases-arguments l = 100 * l.left + 80

abbrev pub decreases-written : goal.decreases-written
decreases-written l = 100 * l.left + 79

abbrev pub decreases-next_argument : goal.decreases-next_argument
decreases-next_argument l = 100 * l.left + 78

abbrev pub decreases-argument : goal.decreases-argument
decreases-argument l = 100 * l.left + 76

abbrev pub decreases-unnamed : goal.decreases-unnamed
decreases-unnamed l = 100 * l.left + 74

abbrev pub decreases-subscript : goal.decreases-subscript
decreases-subscript l = 100 * l.left + 82

abbrev pub decreases-slice : goal.decreases-slice
decreases-slice l = 100 * l.left + 80

abbrev pub decreases-step : goal.decreases-step
decreases-step l = 100 * l.left + 74

abbrev pub decreases-bound : goal.decreases-bound
decreases-bound l = 100 * l.left + 72

abbrev pub decreases-paren : goal.decreases-paren
decreases-paren l = 100 * l.left + 84

abbrev pub decreases-tuple : goal.decreases-tuple
decreases-tuple l = 100 * l.left + 83

abbrev pub decreases-list : goal.decreases-list
decreases-list l = 100 * l.left + 82

abbrev pub decreases-items : goal.decreases-items
decreases-items l = 100 * l.left + 80

abbrev pub decreases-next_item : goal.decreases-next_item
decreases-next_item l = 100 * l.left + 78

abbrev pub decreases-map : goal.decreases-map
decreases-map l = 100 * l.left + 84

abbrev pub decreases-pairs : goal.decreases-pairs
decreases-pairs l = 100 * l.left + 82

abbrev pub decreases-next_pair : goal.decreases-next_pair
decreases-next_pair l = 100 * l.left + 80

abbrev pub decreases-key : goal.decreases-key
decreases-key l = 100 * l.left + 78

abbrev pub invariant-operands-loop-op : goal.invariant-operands-loop-op
invariant-operands-loop-op l =
    (l.tokens.spans ≡ l.initial.tokens.spans) ×
    (all (operand_step l.initial.tokens.spans (level_of l.level) (operand_by l.initial.tokens.spans (deeper l.initial.tokens.spans l.left) (level_of l.level)) l.span) (node_of l.value) l.tokens.left ≡
    all (operand_step l.initial.tokens.spans (level_of l.level) (operand_by l.initial.tokens.spans (deeper l.initial.tokens.spans l.left) (level_of l.level)) l.span) (node_of l.initial.value) l.initial.tokens.left)

abbrev pub decreases-operands-loop-op : goal.decreases-operands-loop-op
decreases-operands-loop-op l = length l.tokens.left

abbrev pub invariant-parts-loop-next : goal.invariant-parts-loop-next
invariant-parts-loop-next l =
    (l.tokens.spans ≡ l.initial.tokens.spans) ×
    (all (part_step l.initial.tokens.spans (deeper l.initial.tokens.spans l.left) l.span) (node_of l.value) l.tokens.left ≡
    all (part_step l.initial.tokens.spans (deeper l.initial.tokens.spans l.left) l.span) (node_of l.initial.value) l.initial.tokens.left)

abbrev pub decreases-parts-loop-next : goal.decreases-parts-loop-next
decreases-parts-loop-next l = length l.tokens.left

abbrev pub invariant-filters-loop-next : goal.invariant-filters-loop-next
invariant-filters-loop-next l =
    (l.tokens.spans ≡ l.initial.tokens.spans) ×
    (all (filter_step l.initial.tokens.spans (deeper l.initial.tokens.spans l.left) l.span) (node_of l.value) l.tokens.left ≡
    all (filter_step l.initial.tokens.spans (deeper l.initial.tokens.spans l.left) l.span) (node_of l.initial.value) l.initial.tokens.left)

abbrev pub decreases-filters-loop-next : goal.decreases-filters-loop-next
decreases-filters-loop-next l = length l.tokens.left

abbrev pub invariant-links-loop-links : goal.invariant-links-loop-links
invariant-links-loop-links l =
    (l.tokens.spans ≡ l.initial.tokens.spans) ×
    (all (link_step l.initial.tokens.spans (terms_by l.initial.tokens.spans (deeper l.initial.tokens.spans l.left))) (placed_links_in l.links.items) l.tokens.left ≡
    all (link_step l.initial.tokens.spans (terms_by l.initial.tokens.spans (deeper l.initial.tokens.spans l.left))) (no_placed_links) l.initial.tokens.left)

abbrev pub decreases-links-loop-links : goal.decreases-links-loop-links
decreases-links-loop-links l = length l.tokens.left

abbrev pub invariant-items-loop-held : goal.invariant-items-loop-held
invariant-items-loop-held l =
    (l.tokens.spans ≡ l.initial.tokens.spans) ×
    (all (items_step l.initial.tokens.spans (expression_by l.initial.tokens.spans (deeper l.initial.tokens.spans l.left))) (nodes_in l.held.items) l.tokens.left ≡
    all (items_step l.initial.tokens.spans (expression_by l.initial.tokens.spans (deeper l.initial.tokens.spans l.left))) (nodes_in l.initial.held.items) l.initial.tokens.left)

abbrev pub decreases-items-loop-held : goal.decreases-items-loop-held
decreases-items-loop-held l = length l.tokens.left

abbrev pub invariant-pairs-loop-held : goal.invariant-pairs-loop-held
invariant-pairs-loop-held l =
    (l.tokens.spans ≡ l.initial.tokens.spans) ×
    (all (pairs_step l.initial.tokens.spans (expression_by l.initial.tokens.spans (deeper l.initial.tokens.spans l.left))) (paired_in l.held) l.tokens.left ≡
    all (pairs_step l.initial.tokens.spans (expression_by l.initial.tokens.spans (deeper l.initial.tokens.spans l.left))) (no_placed_pairs) l.initial.tokens.left)

abbrev pub decreases-pairs-loop-held : goal.decreases-pairs-loop-held
decreases-pairs-loop-held l = length l.tokens.left

abbrev pub invariant-written-loop-held : goal.invariant-written-loop-held
invariant-written-loop-held l =
    (l.tokens.spans ≡ l.initial.tokens.spans) ×
    (all (arguments_step l.initial.tokens.spans (expression_by l.initial.tokens.spans (deeper l.initial.tokens.spans l.left))) (written_in l.held) l.tokens.left ≡
    all (arguments_step l.initial.tokens.spans (expression_by l.initial.tokens.spans (deeper l.initial.tokens.spans l.left))) (no_placed_written) l.initial.tokens.left)

abbrev pub decreases-written-loop-held : goal.decreases-written-loop-held
decreases-written-loop-held l = length l.tokens.left
