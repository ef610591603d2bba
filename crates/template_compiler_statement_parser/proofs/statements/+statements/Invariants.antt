use Rattle.std.proofs.Common.{◌≡◌, ◌+◌, ◌*◌, length}
use Rattle.template_compiler_statement_makers.specs.Listed.{statement_nodes_in}
use Rattle.template_compiler_tokens.specs.Steps.{all}
use Rattle.template_compiler_grammar.specs.TemplateNodes.{no_placed_branches}
use Rattle.template_compiler_grammar.specs.TemplateReader.{here, statement_step, branch_step}
use Rattle.template_compiler_statement_makers.specs.Surroundings.{around_of}
use Rattle.template_compiler_statement_makers.specs.Branches.{branches_in}
use Rattle.template_compiler_statement_parser.proofs.statements.+statements.Given as goal

abbrev pub decreases-read_body : goal.decreases-read_body
decreases-read_body g l = 16 * l.left + 1

abbrev pub decreases-ended_body : goal.decreases-ended_body
decreases-ended_body g l = 16 * l.left + 2

abbrev pub decreases-otherwise : goal.decreases-otherwise
decreases-otherwise g l = 16 * l.left + 2

abbrev pub decreases-read_branch : goal.decreases-read_branch
decreases-read_branch g l = 16 * l.left + 3

abbrev pub decreases-next_branch : goal.decreases-next_branch
decreases-next_branch g l = 16 * l.left + 4

abbrev pub decreases-branches : goal.decreases-branches
decreases-branches g l = 16 * l.left + 5

abbrev pub decreases-if_chain : goal.decreases-if_chain
decreases-if_chain g l = 16 * l.left + 6

abbrev pub decreases-if_condition : goal.decreases-if_condition
decreases-if_condition g l = 16 * l.left + 7

abbrev pub decreases-for_loop : goal.decreases-for_loop
decreases-for_loop g l = 16 * l.left + 7

abbrev pub decreases-with_block : goal.decreases-with_block
decreases-with_block g l = 16 * l.left + 4

abbrev pub decreases-set_block : goal.decreases-set_block
decreases-set_block g l = 16 * l.left + 4

abbrev pub decreases-set : goal.decreases-set
decreases-set g l = 16 * l.left + 5

abbrev pub decreases-auto_escape : goal.decreases-auto_escape
decreases-auto_escape g l = 16 * l.left + 4

abbrev pub decreases-filter_block : goal.decreases-filter_block
decreases-filter_block g l = 16 * l.left + 4

abbrev pub decreases-block : goal.decreases-block
decreases-block g l = 16 * l.left + 5

abbrev pub decreases-macro_block : goal.decreases-macro_block
decreases-macro_block g l = 16 * l.left + 5

abbrev pub decreases-call_block : goal.decreases-call_block
decreases-call_block g l = 16 * l.left + 5

abbrev pub decreases-put_opened : goal.decreases-put_opened
decreases-put_opened g l = 16 * l.left + 11

abbrev pub decreases-put_parent : goal.decreases-put_parent
decreases-put_parent g l = 16 * l.left + 10

abbrev pub decreases-read_parent : goal.decreases-read_parent
decreases-read_parent g l = 16 * l.left + 9

abbrev pub decreases-next_tag : goal.decreases-next_tag
decreases-next_tag g l = 16 * l.left + 12

abbrev pub decreases-next_statement : goal.decreases-next_statement
decreases-next_statement g l = 16 * l.left + 13

abbrev pub decreases-put_statements : goal.decreases-put_statements
decreases-put_statements g l = 16 * l.left + 14

abbrev pub invariant-put_statements-loop-refusal : goal.invariant-put_statements-loop-refusal
invariant-put_statements-loop-refusal g l =
    let spans = l.initial.tokens.spans in
    (l.tokens.spans ≡ spans) ×
    (all (statement_step spans (here spans l.left) (around_of l.around)) (statement_nodes_in l.statements.items) l.tokens.left ≡
    all (statement_step spans (here spans l.left) (around_of l.around)) (statement_nodes_in l.initial.statements.items) l.initial.tokens.left)

abbrev pub decreases-put_statements-loop-refusal : goal.decreases-put_statements-loop-refusal
decreases-put_statements-loop-refusal g l = length l.tokens.left

abbrev pub invariant-branches-loop-branches : goal.invariant-branches-loop-branches
invariant-branches-loop-branches g l =
    let spans = l.initial.tokens.spans in
    (l.tokens.spans ≡ spans) ×
    (all (branch_step spans (here spans l.left) (around_of l.around)) (branches_in l.branches.items) l.tokens.left ≡
    all (branch_step spans (here spans l.left) (around_of l.around)) no_placed_branches l.initial.tokens.left)

abbrev pub decreases-branches-loop-branches : goal.decreases-branches-loop-branches
decreases-branches-loop-branches g l = length l.tokens.left
