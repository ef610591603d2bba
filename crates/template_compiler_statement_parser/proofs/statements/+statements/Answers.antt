use Rattle.std.proofs.Common.{rules, ◌≡◌, ◌-◌, [], codes, refl, sym, ap, ◌∙◌, subst, arith}
use Rattle.template_compiler_tokens.specs.Steps.{all}
use Rattle.template_compiler_tokens.proofs.Loops.{then_goes}
use Rattle.template_compiler_tree_statements.specs.declared.statements.Stmt.TheVariants.{Block, IfCond}
use Rattle.template_compiler_grammar.specs.TemplateGrammar.{macro_around}
use Rattle.template_compiler_grammar.specs.TemplateNodes.{auto_escape_node, call_block_node, filter_block_node, macro_node, with_node}
use Rattle.template_compiler_grammar.specs.TemplateReader.{autoescape_by, block_by, branch_by, branch_step, call_by, else_by, filter_block_by, for_by, here, here_by, if_by, macro_by, opened_by, set_by, statement_step, statements_at, statements_by, with_by}
use Rattle.template_compiler_grammar.specs.Views.{statement_node_of}
use Rattle.template_compiler_stream.specs.Refusals.{Refused}
use Rattle.template_compiler_statement_parts.specs.Parsed.{ParsedAs, ParsedInto, RefusedStep, SteppedTo}
use Rattle.template_compiler_statement_parts.proofs.Rounds.{rounds_end, rounds_go, rounds_refused}
use Rattle.template_compiler_statement_makers.specs.Begun.{set_block_of}
use Rattle.template_compiler_statement_makers.specs.Branches.{branch_in}
use Rattle.template_compiler_statement_makers.specs.Listed.{statement_nodes_in}
use Rattle.template_compiler_statement_makers.specs.Surroundings.{around_of, opening_of}
use Rattle.template_compiler_statement_parser.specs.Kinds.{parent_opening}
use Rattle.template_compiler_statement_heads.specs.DeclarationHeads.{block_rest, set_over, set_rest}
use Rattle.template_compiler_statement_heads.specs.Heads.{for_rest}
use Rattle.template_compiler_statement_parser.specs.Bodies.{ParsedStatement, PutBehind, if_rest, put_behind}
use Rattle.template_compiler_grammar.proofs.TemplatesSound.{branches_fall, statements_fall}
use Rattle.template_compiler_statement_parser.proofs.Less.{body_less}
use Rattle.template_compiler_statement_parser.proofs.Made.{alone_fails, behind, behind_fails, body_fails, body_made, branch_made, branches_fail, else_body_fails, else_ended, else_fails, else_read, else_tag_fails, for_body_fails, for_else_fails, for_made, head_fails, if_behind, if_made, if_whole, rest_made, set_body_fails, set_body_made, set_opened, set_read}
use Rattle.template_compiler_statement_parser.proofs.Next.{tag_here, text_put}
use Rattle.template_compiler_statement_parser.proofs.Put.{put_fails, put_node, put_statement}
use Rattle.template_compiler_statement_parser.proofs.Wholes.{autoescape_whole, block_whole, branch_whole, call_whole, filter_whole, for_whole, macro_whole, set_whole_by, with_whole}
use Rattle.template_compiler_statement_parser.proofs.statements.+statements.Goals as goal

pub branches-returns-in-Ok-false-clause-parsed : goal.branches-returns-in-Ok-false-clause-parsed
branches-returns-in-Ok-false-clause-parsed g t c =
    let spans = c.args.tokens.now.spans in
    let ended = rw c.loop-branches.invariant.0 at (rw c.in-Ok-false.field-0-test at c.in-Ok-false.ensures.parsed) in
    rounds_end (branch_step spans (here spans c.args.left) (around_of c.args.around)) _ _ _ _ _ _ c.loop-branches.invariant.1 ended

pub branches-returns-in-Err-clause-parsed : goal.branches-returns-in-Err-clause-parsed
branches-returns-in-Err-clause-parsed g t c =
    let spans = c.args.tokens.now.spans in
    let now = rw c.loop-branches.invariant.0 at c.in-Err.ensures.parsed in
    rounds_refused (branch_step spans (here spans c.args.left) (around_of c.args.around)) _ _ _ _ c.in-Err.refusal c.loop-branches.invariant.1 now

pub branches-loop-branches-preserved : goal.branches-loop-branches-preserved
branches-loop-branches-preserved g t c =
    let spans = c.args.tokens.now.spans in
    let more = rw c.loop-branches.invariant.0 at (rw c.in-Ok-true.field-0-test at c.in-Ok-true.ensures.parsed) in (
      c.in-Ok-true.ensures.spans ∙ c.loop-branches.invariant.0,
      rounds_go (branch_step spans (here spans c.args.left) (around_of c.args.around)) (branches_fall spans c.args.left (around_of c.args.around))
          _ _ _ _ _ _ c.loop-branches.invariant.1 more,
    )

pub branches-loop-branches-smaller : goal.branches-loop-branches-smaller
branches-loop-branches-smaller g t c =
    let more = rw c.in-Ok-true.field-0-test at c.in-Ok-true.ensures.parsed in
    branches_fall _ c.args.left (around_of c.args.around) _ _ _ _ more

pub next_statement-returns-in-Some-tag_word-clause-parsed : goal.next_statement-returns-in-Some-tag_word-clause-parsed
next_statement-returns-in-Some-tag_word-clause-parsed g t c =
    let spans = c.args.tokens.now.spans in
    let ss = statement_nodes_in c.args.statements.now.items in
    subst (λ m. SteppedTo m ss c.args.tokens.now.left (statement_nodes_in c.next_tag.new.statements.items) c.next_tag.new.tokens.left c.next_tag.result)
    (sym (tag_here spans (here spans c.args.left) (around_of c.args.around) ss c.in-Some-tag_word.word.now c.args.tokens.now.left c.in-Some-tag_word.ensures))
    c.next_tag.ensures.parsed

pub with_block-returns-clause-parsed : goal.with_block-returns-clause-parsed
unfolding here here_by
with_block-returns-clause-parsed g t c =
    let spans = c.args.tokens.now.spans in
    let r = here spans c.args.left in
    let p = around_of c.args.around in
    let body = rw c.in_ok-head.ensures.spans at c.in_ok-body.ensures.parsed in
    body_made spans r p (codes "endwith") c.args.span with_node (with_whole spans r p c.args.span c.args.tokens.now.left) _ _ c.in_ok-head.ensures.parsed _ _ _ _ _
    body (c.in_ok-body.ensures.spans ∙ c.in_ok-head.ensures.spans) c.expand_span.ensures c.in_ok-with_block.ensures

pub with_block-returns-in_err-head-clause-parsed : goal.with_block-returns-in_err-head-clause-parsed
with_block-returns-in_err-head-clause-parsed g t c =
    let spans = c.args.tokens.now.spans in
    let r = here spans c.args.left in
    let p = around_of c.args.around in
    let refused : Refused (with_by spans r p c.args.span c.args.tokens.now.left) c.in_err-head.field-0.0 = head_fails _ _ (with_whole spans r p c.args.span c.args.tokens.now.left) _ c.in_err-head.ensures.parsed in
    search rules

pub with_block-returns-in_err-body-clause-parsed : goal.with_block-returns-in_err-body-clause-parsed
unfolding here here_by
with_block-returns-in_err-body-clause-parsed g t c =
    let spans = c.args.tokens.now.spans in
    let r = here spans c.args.left in
    let p = around_of c.args.around in
    let body = rw c.in_ok-head.ensures.spans at c.in_err-body.ensures.parsed in
    let refused : Refused (with_by spans r p c.args.span c.args.tokens.now.left) c.in_err-body.field-0.0 =
    body_fails spans r p (codes "endwith") c.args.span with_node (with_whole spans r p c.args.span c.args.tokens.now.left) _ _ c.in_ok-head.ensures.parsed _ body in
    search rules

pub auto_escape-returns-clause-parsed : goal.auto_escape-returns-clause-parsed
unfolding here here_by
auto_escape-returns-clause-parsed g t c =
    let spans = c.args.tokens.now.spans in
    let r = here spans c.args.left in
    let p = around_of c.args.around in
    let body = rw c.in_ok-head.ensures.spans at c.in_ok-body.ensures.parsed in
    body_made spans r p (codes "endautoescape") c.args.span auto_escape_node (autoescape_whole spans r p c.args.span c.args.tokens.now.left) _ _ c.in_ok-head.ensures.parsed _ _ _ _ _
    body (c.in_ok-body.ensures.spans ∙ c.in_ok-head.ensures.spans) c.expand_span.ensures c.auto_escape.ensures

pub auto_escape-returns-in_err-head-clause-parsed : goal.auto_escape-returns-in_err-head-clause-parsed
auto_escape-returns-in_err-head-clause-parsed g t c =
    let spans = c.args.tokens.now.spans in
    let r = here spans c.args.left in
    let p = around_of c.args.around in
    let refused : Refused (autoescape_by spans r p c.args.span c.args.tokens.now.left) c.in_err-head.field-0.0 = head_fails _ _ (autoescape_whole spans r p c.args.span c.args.tokens.now.left) _ c.in_err-head.ensures.parsed in
    search rules

pub auto_escape-returns-in_err-body-clause-parsed : goal.auto_escape-returns-in_err-body-clause-parsed
unfolding here here_by
auto_escape-returns-in_err-body-clause-parsed g t c =
    let spans = c.args.tokens.now.spans in
    let r = here spans c.args.left in
    let p = around_of c.args.around in
    let body = rw c.in_ok-head.ensures.spans at c.in_err-body.ensures.parsed in
    let refused : Refused (autoescape_by spans r p c.args.span c.args.tokens.now.left) c.in_err-body.field-0.0 =
    body_fails spans r p (codes "endautoescape") c.args.span auto_escape_node (autoescape_whole spans r p c.args.span c.args.tokens.now.left) _ _ c.in_ok-head.ensures.parsed _ body in
    search rules

pub filter_block-returns-clause-parsed : goal.filter_block-returns-clause-parsed
unfolding here here_by
filter_block-returns-clause-parsed g t c =
    let spans = c.args.tokens.now.spans in
    let r = here spans c.args.left in
    let p = around_of c.args.around in
    let body = rw c.in_ok-head.ensures.spans at c.in_ok-body.ensures.parsed in
    body_made spans r p (codes "endfilter") c.args.span filter_block_node (filter_whole spans r p c.args.span c.args.tokens.now.left) _ _ c.in_ok-head.ensures.parsed _ _ _ _ _
    body (c.in_ok-body.ensures.spans ∙ c.in_ok-head.ensures.spans) c.expand_span.ensures c.filter_block.ensures

pub filter_block-returns-in_err-head-clause-parsed : goal.filter_block-returns-in_err-head-clause-parsed
filter_block-returns-in_err-head-clause-parsed g t c =
    let spans = c.args.tokens.now.spans in
    let r = here spans c.args.left in
    let p = around_of c.args.around in
    let refused : Refused (filter_block_by spans r p c.args.span c.args.tokens.now.left) c.in_err-head.field-0.0 = head_fails _ _ (filter_whole spans r p c.args.span c.args.tokens.now.left) _ c.in_err-head.ensures.parsed in
    search rules

pub filter_block-returns-in_err-body-clause-parsed : goal.filter_block-returns-in_err-body-clause-parsed
unfolding here here_by
filter_block-returns-in_err-body-clause-parsed g t c =
    let spans = c.args.tokens.now.spans in
    let r = here spans c.args.left in
    let p = around_of c.args.around in
    let body = rw c.in_ok-head.ensures.spans at c.in_err-body.ensures.parsed in
    let refused : Refused (filter_block_by spans r p c.args.span c.args.tokens.now.left) c.in_err-body.field-0.0 =
    body_fails spans r p (codes "endfilter") c.args.span filter_block_node (filter_whole spans r p c.args.span c.args.tokens.now.left) _ _ c.in_ok-head.ensures.parsed _ body in
    search rules

pub macro_block-returns-clause-parsed : goal.macro_block-returns-clause-parsed
unfolding here here_by
macro_block-returns-clause-parsed g t c =
    let spans = c.args.tokens.now.spans in
    let r = here spans c.args.left in
    let body = rw c.within_macro.ensures at (rw c.in_ok-head.ensures.spans at c.in_ok-body.ensures.parsed) in
    body_made spans r macro_around (codes "endmacro") c.args.span (λ h. macro_node h.1 h.0) (macro_whole spans r c.args.span c.args.tokens.now.left) _ _ c.in_ok-head.ensures.parsed _ _ _ _ _
    body (c.in_ok-body.ensures.spans ∙ c.in_ok-head.ensures.spans) c.expand_span.ensures c.in_ok-macro_block.ensures

pub macro_block-returns-in_err-head-clause-parsed : goal.macro_block-returns-in_err-head-clause-parsed
macro_block-returns-in_err-head-clause-parsed g t c =
    let spans = c.args.tokens.now.spans in
    let r = here spans c.args.left in
    let refused : Refused (macro_by spans r c.args.span c.args.tokens.now.left) c.in_err-head.field-0.0 = head_fails _ _ (macro_whole spans r c.args.span c.args.tokens.now.left) _ c.in_err-head.ensures.parsed in
    search rules

pub macro_block-returns-in_err-body-clause-parsed : goal.macro_block-returns-in_err-body-clause-parsed
unfolding here here_by
macro_block-returns-in_err-body-clause-parsed g t c =
    let spans = c.args.tokens.now.spans in
    let r = here spans c.args.left in
    let body = rw c.within_macro.ensures at (rw c.in_ok-head.ensures.spans at c.in_err-body.ensures.parsed) in
    let refused : Refused (macro_by spans r c.args.span c.args.tokens.now.left) c.in_err-body.field-0.0 =
    body_fails spans r macro_around (codes "endmacro") c.args.span (λ h. macro_node h.1 h.0) (macro_whole spans r c.args.span c.args.tokens.now.left) _ _ c.in_ok-head.ensures.parsed _ body in
    search rules

pub call_block-returns-clause-parsed : goal.call_block-returns-clause-parsed
unfolding here here_by
call_block-returns-clause-parsed g t c =
    let spans = c.args.tokens.now.spans in
    let r = here spans c.args.left in
    let body = rw c.within_macro.ensures at (rw c.in_ok-head.ensures.spans at c.in_ok-body.ensures.parsed) in
    body_made spans r macro_around (codes "endcall") c.args.span (λ h. call_block_node h.2 h.3 h.1 h.0) (call_whole spans r c.args.span c.args.tokens.now.left) _ _ c.in_ok-head.ensures.parsed _ _ _ _ _
    body (c.in_ok-body.ensures.spans ∙ c.in_ok-head.ensures.spans) c.expand_span.ensures c.in_ok-call_block.ensures

pub call_block-returns-in_err-head-clause-parsed : goal.call_block-returns-in_err-head-clause-parsed
call_block-returns-in_err-head-clause-parsed g t c =
    let spans = c.args.tokens.now.spans in
    let r = here spans c.args.left in
    let refused : Refused (call_by spans r c.args.span c.args.tokens.now.left) c.in_err-head.field-0.0 = head_fails _ _ (call_whole spans r c.args.span c.args.tokens.now.left) _ c.in_err-head.ensures.parsed in
    search rules

pub call_block-returns-in_err-body-clause-parsed : goal.call_block-returns-in_err-body-clause-parsed
unfolding here here_by
call_block-returns-in_err-body-clause-parsed g t c =
    let spans = c.args.tokens.now.spans in
    let r = here spans c.args.left in
    let body = rw c.within_macro.ensures at (rw c.in_ok-head.ensures.spans at c.in_err-body.ensures.parsed) in
    let refused : Refused (call_by spans r c.args.span c.args.tokens.now.left) c.in_err-body.field-0.0 =
    body_fails spans r macro_around (codes "endcall") c.args.span (λ h. call_block_node h.2 h.3 h.1 h.0) (call_whole spans r c.args.span c.args.tokens.now.left) _ _ c.in_ok-head.ensures.parsed _ body in
    search rules

pub set-returns-in_err-node-clause-parsed : goal.set-returns-in_err-node-clause-parsed
set-returns-in_err-node-clause-parsed g t c =
    let spans = c.args.tokens.now.spans in
    let r = here spans c.args.left in
    let p = around_of c.args.around in
    let refused : Refused (set_by spans r p c.args.span c.args.tokens.now.left) c.in_err-node.field-0.0 =
    head_fails _ (set_rest spans r p c.args.span) (set_whole_by spans r p c.args.span c.args.tokens.now.left) _ c.in_err-node.ensures.parsed in
    search rules

pub set-returns-in-Values-clause-parsed : goal.set-returns-in-Values-clause-parsed
set-returns-in-Values-clause-parsed g t c =
    let spans = c.args.tokens.now.spans in
    let r = here spans c.args.left in
    let p = around_of c.args.around in
    set_read spans r p c.args.span _ _ _ (rw c.in-Values.is at c.in_ok-node.ensures.parsed)

pub set-returns-in-Block-clause-parsed : goal.set-returns-in-Block-clause-parsed
set-returns-in-Block-clause-parsed g t c =
    let spans = c.args.tokens.now.spans in
    let r = here spans c.args.left in
    let p = around_of c.args.around in
    let head = rw c.in-Block.is at c.in_ok-node.ensures.parsed in
    let rest = rw c.in_ok-node.ensures.spans at c.set_block.ensures.parsed in
    subst (λ m. ParsedStatement m c.set_block.new.tokens.left c.map.result)
    (sym (set_opened spans r p c.args.span _ _ _ head)) (search rules)

pub set_block-returns-clause-parsed : goal.set_block-returns-clause-parsed
unfolding here here_by
set_block-returns-clause-parsed g t c =
    let spans = c.args.tokens.now.spans in
    let r = here spans c.args.left in
    let p = around_of c.args.around in
    set_body_made spans r p c.args.span (set_block_of c.args.head) _ _ _ _ _ _ c.in_ok-body.ensures.parsed c.in_ok-body.ensures.spans
    c.expand_span.ensures c.set_block.ensures

pub set_block-returns-in_err-body-clause-parsed : goal.set_block-returns-in_err-body-clause-parsed
unfolding here here_by
set_block-returns-in_err-body-clause-parsed g t c =
    let spans = c.args.tokens.now.spans in
    let r = here spans c.args.left in
    let p = around_of c.args.around in
    let refused : Refused (set_rest spans r p c.args.span (set_over (set_block_of c.args.head)) c.args.tokens.now.left) c.in_err-body.field-0.0 =
    set_body_fails spans r p c.args.span (set_block_of c.args.head) _ _ c.in_err-body.ensures.parsed in
    search rules

pub read_body-returns-else-left-eq0-clause-parsed : goal.read_body-returns-else-left-eq0-clause-parsed
unfolding statements_at statements_by
read_body-returns-else-left-eq0-clause-parsed g t c =
    let spans = c.args.tokens.now.spans in
    let p = around_of c.args.around in
    let n = c.args.left - 1 in
    subst (λ m. ParsedInto m (statement_nodes_in c.put_statements.new.statements.items) c.put_statements.new.tokens.left c.put_statements.result)
    (ap (λ ss. all (statement_step spans (here spans n) p) (statement_nodes_in ss) c.args.tokens.now.left) c.requires ∙
    sym (body_less spans c.args.left n p c.args.tokens.now.left (omega arith)))
    c.put_statements.ensures.parsed

pub put_statements-returns-in-Ok-false-clause-parsed : goal.put_statements-returns-in-Ok-false-clause-parsed
put_statements-returns-in-Ok-false-clause-parsed g t c =
    let spans = c.args.tokens.now.spans in
    let ended = rw c.loop-refusal.invariant.0 at (rw c.in-Ok-false.field-0-test at c.in-Ok-false.ensures.parsed) in
    rounds_end (statement_step spans (here spans c.args.left) (around_of c.args.around)) _ _ _ _ _ _ c.loop-refusal.invariant.1 ended

pub put_statements-returns-in-Err-clause-parsed : goal.put_statements-returns-in-Err-clause-parsed
put_statements-returns-in-Err-clause-parsed g t c =
    let spans = c.args.tokens.now.spans in
    let now = rw c.loop-refusal.invariant.0 at c.in-Err.ensures.parsed in
    rounds_refused (statement_step spans (here spans c.args.left) (around_of c.args.around)) _ _ _ _ c.in-Err.refusal c.loop-refusal.invariant.1 now

pub put_statements-loop-refusal-preserved : goal.put_statements-loop-refusal-preserved
put_statements-loop-refusal-preserved g t c =
    let spans = c.args.tokens.now.spans in
    let more = rw c.loop-refusal.invariant.0 at (rw c.in-Ok-true.field-0-test at c.in-Ok-true.ensures.parsed) in (
      c.in-Ok-true.ensures.spans ∙ c.loop-refusal.invariant.0,
      rounds_go (statement_step spans (here spans c.args.left) (around_of c.args.around)) (statements_fall spans c.args.left (around_of c.args.around))
          _ _ _ _ _ _ c.loop-refusal.invariant.1 more,
    )

pub put_statements-loop-refusal-smaller : goal.put_statements-loop-refusal-smaller
put_statements-loop-refusal-smaller g t c =
    let more = rw c.in-Ok-true.field-0-test at c.in-Ok-true.ensures.parsed in
    statements_fall _ c.args.left (around_of c.args.around) _ _ _ _ more

pub for_loop-returns-clause-parsed : goal.for_loop-returns-clause-parsed
unfolding here here_by
for_loop-returns-clause-parsed g t c =
    let spans = c.args.tokens.now.spans in
    let r = here spans c.args.left in
    let p = around_of c.args.around in
    let body = rw c.within_loop.ensures at (rw c.in_ok-head.ensures.spans at c.in_ok-read_body.ensures.parsed) in
    let same = c.in_ok-read_body.ensures.spans ∙ c.in_ok-head.ensures.spans in
    let other = rw same at c.in_ok-otherwise.ensures.parsed in
    for_made spans r p c.args.span _ _ _ _ _ _ _ _ _ _ c.in_ok-head.ensures.parsed body other (c.in_ok-otherwise.ensures.spans ∙ same)
    c.expand_span.ensures (rw c.deref_mut.ensures.value at (rw c.deref_mut-2.ensures.value at c.for_loop.ensures))

pub for_loop-returns-in_err-head-clause-parsed : goal.for_loop-returns-in_err-head-clause-parsed
for_loop-returns-in_err-head-clause-parsed g t c =
    let spans = c.args.tokens.now.spans in
    let r = here spans c.args.left in
    let p = around_of c.args.around in
    let refused : Refused (for_by spans r p c.args.span c.args.tokens.now.left) c.in_err-head.field-0.0 =
    head_fails _ (for_rest spans r p c.args.span) (for_whole spans r p c.args.span c.args.tokens.now.left) _ c.in_err-head.ensures.parsed in
    search rules

pub for_loop-returns-in_err-read_body-clause-parsed : goal.for_loop-returns-in_err-read_body-clause-parsed
unfolding here here_by
for_loop-returns-in_err-read_body-clause-parsed g t c =
    let spans = c.args.tokens.now.spans in
    let r = here spans c.args.left in
    let p = around_of c.args.around in
    let body = rw c.within_loop.ensures at (rw c.in_ok-head.ensures.spans at c.in_err-read_body.ensures.parsed) in
    let refused : Refused (for_by spans r p c.args.span c.args.tokens.now.left) c.in_err-read_body.field-0.0 =
    for_body_fails spans r p c.args.span _ _ _ c.in_ok-head.ensures.parsed _ body in
    search rules

pub for_loop-returns-in_err-otherwise-clause-parsed : goal.for_loop-returns-in_err-otherwise-clause-parsed
unfolding here here_by
for_loop-returns-in_err-otherwise-clause-parsed g t c =
    let spans = c.args.tokens.now.spans in
    let r = here spans c.args.left in
    let p = around_of c.args.around in
    let body = rw c.within_loop.ensures at (rw c.in_ok-head.ensures.spans at c.in_ok-read_body.ensures.parsed) in
    let other = rw (c.in_ok-read_body.ensures.spans ∙ c.in_ok-head.ensures.spans) at c.in_err-otherwise.ensures.parsed in
    let refused : Refused (for_by spans r p c.args.span c.args.tokens.now.left) c.in_err-otherwise.field-0.0 =
    for_else_fails spans r p c.args.span _ _ _ _ _ c.in_ok-head.ensures.parsed body _ other in
    search rules

pub if_condition-returns-then-begins_tag-clause-parsed : goal.if_condition-returns-then-begins_tag-clause-parsed
if_condition-returns-then-begins_tag-clause-parsed g t c =
    let spans = c.args.tokens.now.spans in
    let r = here spans c.args.left in
    let p = around_of c.args.around in
    let rest = rw c.in_ok-branch.ensures.spans at c.if_chain.ensures.parsed in
    subst (λ m. ParsedAs (λ n. statement_node_of (IfCond n)) m c.if_chain.new.tokens.left c.if_chain.result)
    (sym (if_behind spans r p c.args.span _ _ _ c.in_ok-branch.ensures.parsed)) rest

pub if_condition-returns-clause-parsed : goal.if_condition-returns-clause-parsed
if_condition-returns-clause-parsed g t c =
    let spans = c.args.tokens.now.spans in
    let r = here spans c.args.left in
    let p = around_of c.args.around in
    let other = rw c.in_ok-branch.ensures.spans at c.in_ok-otherwise.ensures.parsed in
    if_made spans r p c.args.span (branch_in c.in_ok-branch.branch) _ _ _ _ _ _ _ c.in_ok-branch.ensures.parsed
    (sym c.begins_tag.ensures ∙ c.if-begins_tag.false) other (c.in_ok-otherwise.ensures.spans ∙ c.in_ok-branch.ensures.spans)
    c.expand_span.ensures (rw c.deref_mut.ensures.value at c.condition.ensures)

pub if_condition-returns-in_err-branch-clause-parsed : goal.if_condition-returns-in_err-branch-clause-parsed
if_condition-returns-in_err-branch-clause-parsed g t c =
    let spans = c.args.tokens.now.spans in
    let r = here spans c.args.left in
    let p = around_of c.args.around in
    let refused : Refused (if_by spans r p c.args.span c.args.tokens.now.left) c.in_err-branch.field-0.0 =
    head_fails _ (if_rest spans r p c.args.span) (if_whole spans r p c.args.span c.args.tokens.now.left) _ c.in_err-branch.ensures.parsed in
    search rules

pub if_condition-returns-in_err-otherwise-clause-parsed : goal.if_condition-returns-in_err-otherwise-clause-parsed
if_condition-returns-in_err-otherwise-clause-parsed g t c =
    let spans = c.args.tokens.now.spans in
    let r = here spans c.args.left in
    let p = around_of c.args.around in
    let other = rw c.in_ok-branch.ensures.spans at c.in_err-otherwise.ensures.parsed in
    let refused : Refused (if_by spans r p c.args.span c.args.tokens.now.left) c.in_err-otherwise.field-0.0 =
    behind_fails (if_rest spans r p c.args.span) (if_whole spans r p c.args.span c.args.tokens.now.left) _ _ c.in_ok-branch.ensures.parsed _
    (alone_fails spans r p c.args.span (branch_in c.in_ok-branch.branch) _ (sym c.begins_tag.ensures ∙ c.if-begins_tag.false) _ other) in
    search rules

pub if_chain-returns-clause-parsed : goal.if_chain-returns-clause-parsed
if_chain-returns-clause-parsed g t c =
    let spans = c.args.tokens.now.spans in
    let r = here spans c.args.left in
    let p = around_of c.args.around in
    let last = rw c.in_ok-others.ensures.spans at c.in_ok-otherwise.ensures.parsed in
    rest_made spans r p c.args.span (branch_in c.args.first) _ _ _ _ _ _ _ _ _ c.in_ok-others.ensures.parsed last (c.in_ok-otherwise.ensures.spans ∙ c.in_ok-others.ensures.spans)
    c.expand_span-whole.ensures c.in_ok-false_body.ensures c.otherwise-2.ensures

pub if_chain-returns-in_err-others-clause-parsed : goal.if_chain-returns-in_err-others-clause-parsed
if_chain-returns-in_err-others-clause-parsed g t c =
    let spans = c.args.tokens.now.spans in
    let r = here spans c.args.left in
    let p = around_of c.args.around in
    let refused : Refused (if_rest spans r p c.args.span (branch_in c.args.first) c.args.tokens.now.left) c.in_err-others.field-0.0 =
    branches_fail spans r p c.args.span (branch_in c.args.first) _ _ c.in_err-others.ensures.parsed in
    search rules

pub if_chain-returns-in_err-otherwise-clause-parsed : goal.if_chain-returns-in_err-otherwise-clause-parsed
if_chain-returns-in_err-otherwise-clause-parsed g t c =
    let spans = c.args.tokens.now.spans in
    let r = here spans c.args.left in
    let p = around_of c.args.around in
    let last = rw c.in_ok-others.ensures.spans at c.in_err-otherwise.ensures.parsed in
    let refused : Refused (if_rest spans r p c.args.span (branch_in c.args.first) c.args.tokens.now.left) c.in_err-otherwise.field-0.0 =
    else_fails spans r p c.args.span (branch_in c.args.first) _ _ _ c.in_ok-others.ensures.parsed _ last in
    search rules

pub read_branch-returns-clause-parsed : goal.read_branch-returns-clause-parsed
unfolding here here_by
read_branch-returns-clause-parsed g t c =
    let spans = c.args.tokens.now.spans in
    let r = here spans c.args.left in
    let p = around_of c.args.around in
    let head = rw (sym c.deref_mut.ensures.value) at c.in_ok-head.ensures.parsed in
    let body = rw c.in_ok-head.ensures.spans at c.in_ok-read_body.ensures.parsed in
    branch_made spans r p c.args.span _ _ _ _ _ head body

pub read_branch-returns-in_err-head-clause-parsed : goal.read_branch-returns-in_err-head-clause-parsed
read_branch-returns-in_err-head-clause-parsed g t c =
    let spans = c.args.tokens.now.spans in
    let r = here spans c.args.left in
    let p = around_of c.args.around in
    let refused : Refused (branch_by spans r p c.args.tokens.now.left) c.in_err-head.field-0.0 =
    head_fails _ _ (branch_whole spans r p c.args.tokens.now.left) _ c.in_err-head.ensures.parsed in
    search rules

pub read_branch-returns-in_err-read_body-clause-parsed : goal.read_branch-returns-in_err-read_body-clause-parsed
unfolding here here_by
read_branch-returns-in_err-read_body-clause-parsed g t c =
    let spans = c.args.tokens.now.spans in
    let r = here spans c.args.left in
    let p = around_of c.args.around in
    let body = rw c.in_ok-head.ensures.spans at c.in_err-read_body.ensures.parsed in
    let refused : Refused (branch_by spans r p c.args.tokens.now.left) c.in_err-read_body.field-0.0 =
    behind_fails _ (branch_whole spans r p c.args.tokens.now.left) _ _ c.in_ok-head.ensures.parsed _ (head_fails _ _ refl _ body) in
    search rules

pub block-returns-clause-parsed : goal.block-returns-clause-parsed
unfolding here here_by
block-returns-clause-parsed g t c =
    let spans = c.args.tokens.now.spans in
    let r = here spans c.args.left in
    let p = around_of c.args.around in
    let body = rw c.within_block.ensures at (rw c.in_ok-head.ensures.spans at c.in_ok-read_body.ensures.parsed) in
    let end = rw (c.in_ok-read_body.ensures.spans ∙ c.in_ok-head.ensures.spans) at c.read_block_end.ensures.parsed in
    subst (λ m. ParsedAs (λ n. statement_node_of (Block n)) m c.read_block_end.new.tokens.left c.read_block_end.result)
    (sym (behind (block_rest spans r p c.args.span) (block_whole spans r p c.args.span c.args.tokens.now.left) _ _ c.in_ok-head.ensures.parsed
    (then_goes _ body refl))) end

pub block-returns-in_err-head-clause-parsed : goal.block-returns-in_err-head-clause-parsed
block-returns-in_err-head-clause-parsed g t c =
    let spans = c.args.tokens.now.spans in
    let r = here spans c.args.left in
    let p = around_of c.args.around in
    let refused : Refused (block_by spans r p c.args.span c.args.tokens.now.left) c.in_err-head.field-0.0 =
    head_fails _ (block_rest spans r p c.args.span) (block_whole spans r p c.args.span c.args.tokens.now.left) _ c.in_err-head.ensures.parsed in
    search rules

pub block-returns-in_err-read_body-clause-parsed : goal.block-returns-in_err-read_body-clause-parsed
unfolding here here_by
block-returns-in_err-read_body-clause-parsed g t c =
    let spans = c.args.tokens.now.spans in
    let r = here spans c.args.left in
    let p = around_of c.args.around in
    let body = rw c.within_block.ensures at (rw c.in_ok-head.ensures.spans at c.in_err-read_body.ensures.parsed) in
    let refused : Refused (block_by spans r p c.args.span c.args.tokens.now.left) c.in_err-read_body.field-0.0 =
    behind_fails (block_rest spans r p c.args.span) (block_whole spans r p c.args.span c.args.tokens.now.left) _ _ c.in_ok-head.ensures.parsed _
    (head_fails _ _ refl _ body) in
    search rules

pub otherwise-returns-else-begins_tag-clause-parsed : goal.otherwise-returns-else-begins_tag-clause-parsed
otherwise-returns-else-begins_tag-clause-parsed g t c =
    let spans = c.args.tokens.now.spans in
    let empty : c.args.other.now.items ≡ [] = search rules in
    else_ended spans (here spans c.args.left) (around_of c.args.around) c.args.end.now c.args.tokens.now.left _ _ _
    (sym c.begins_tag.ensures ∙ c.if-begins_tag.false) empty c.expect_tag-else-begins_tag.ensures.parsed

pub otherwise-returns-in_ok-read_body-clause-parsed : goal.otherwise-returns-in_ok-read_body-clause-parsed
unfolding here here_by
otherwise-returns-in_ok-read_body-clause-parsed g t c =
    let spans = c.args.tokens.now.spans in
    let r = here spans c.args.left in
    let p = around_of c.args.around in
    let here_is = sym c.begins_tag.ensures ∙ c.if-begins_tag.true in
    let tagged = rw c.advance.ensures.passed at (rw c.advance-then-begins_tag.ensures.passed at c.in_ok-expect_tag_end.ensures.parsed) in
    let same = c.in_ok-expect_tag_end.ensures.spans ∙ c.advance-then-begins_tag.ensures.spans ∙ c.advance.ensures.spans in
    let body = rw same at c.in_ok-read_body.ensures.parsed in
    else_read spans r p c.args.end.now c.args.tokens.now.left here_is _ tagged _ _ _ _ body c.expect_tag.ensures.parsed

pub otherwise-returns-in_err-expect_tag_end-clause-parsed : goal.otherwise-returns-in_err-expect_tag_end-clause-parsed
otherwise-returns-in_err-expect_tag_end-clause-parsed g t c =
    let spans = c.args.tokens.now.spans in
    let r = here spans c.args.left in
    let p = around_of c.args.around in
    let here_is = sym c.begins_tag.ensures ∙ c.if-begins_tag.true in
    let tag = rw c.advance.ensures.passed at (rw c.advance-then-begins_tag.ensures.passed at c.in_err-expect_tag_end.ensures.parsed) in
    let refused : Refused (else_by spans r p c.args.end.now c.args.tokens.now.left) c.in_err-expect_tag_end.field-0.0 =
    else_tag_fails spans r p c.args.end.now c.args.tokens.now.left here_is _ tag in
    search rules

pub otherwise-returns-in_err-read_body-clause-parsed : goal.otherwise-returns-in_err-read_body-clause-parsed
unfolding here here_by
otherwise-returns-in_err-read_body-clause-parsed g t c =
    let spans = c.args.tokens.now.spans in
    let r = here spans c.args.left in
    let p = around_of c.args.around in
    let here_is = sym c.begins_tag.ensures ∙ c.if-begins_tag.true in
    let tagged = rw c.advance.ensures.passed at (rw c.advance-then-begins_tag.ensures.passed at c.in_ok-expect_tag_end.ensures.parsed) in
    let same = c.in_ok-expect_tag_end.ensures.spans ∙ c.advance-then-begins_tag.ensures.spans ∙ c.advance.ensures.spans in
    let body = rw same at c.in_err-read_body.ensures.parsed in
    let refused : Refused (else_by spans r p c.args.end.now c.args.tokens.now.left) c.in_err-read_body.field-0.0 =
    else_body_fails spans r p c.args.end.now c.args.tokens.now.left here_is _ tagged _ body in
    search rules

pub put_opened-returns-in-Leaf-clause-parsed : goal.put_opened-returns-in-Leaf-clause-parsed
put_opened-returns-in-Leaf-clause-parsed g t c =
    let spans = c.args.tokens.now.spans in
    let r = here spans c.args.left in
    let p = around_of c.args.around in
    subst (λ o. PutBehind (opened_by spans r p o c.args.span c.args.tokens.now.left) (statement_nodes_in c.args.statements.now.items)
    (statement_nodes_in c.put_leaf.new.statements.items) c.put_leaf.new.tokens.left c.put_leaf.result)
    c.in-Leaf.ensures c.put_leaf.ensures.parsed

pub put_opened-returns-in-Parent-clause-parsed : goal.put_opened-returns-in-Parent-clause-parsed
put_opened-returns-in-Parent-clause-parsed g t c =
    let spans = c.args.tokens.now.spans in
    let r = here spans c.args.left in
    let p = around_of c.args.around in
    subst (λ o. PutBehind (opened_by spans r p o c.args.span c.args.tokens.now.left) (statement_nodes_in c.args.statements.now.items)
    (statement_nodes_in c.put_parent.new.statements.items) c.put_parent.new.tokens.left c.put_parent.result)
    c.in-Parent.ensures c.put_parent.ensures.parsed

pub next_statement-returns-in-Some-clause-parsed : goal.next_statement-returns-in-Some-clause-parsed
next_statement-returns-in-Some-clause-parsed g t c =
    let spans = c.args.tokens.now.spans in
    text_put spans (here spans c.args.left) (around_of c.args.around) _ _ c.in-Some.text.now _ c.args.tokens.now.left c.advance.new.self.left
    c.in-Some.ensures.text c.in-Some.ensures.counted c.advance.ensures.passed c.in_ok-put_text.ensures.put c.span-span.ensures

pub put_parent-returns-clause-parsed : goal.put_parent-returns-clause-parsed
put_parent-returns-clause-parsed g t c =
    let spans = c.args.tokens.now.spans in
    put_statement
    (opened_by spans (here spans c.args.left) (around_of c.args.around) (parent_opening c.args.parent) c.args.span c.args.tokens.now.left)
    c.args.statements.now.items _ _ _ _ c.in_ok-statement.ensures.parsed c.put.ensures.put c.put.ensures.refused

pub put_parent-returns-in_err-statement-clause-parsed : goal.put_parent-returns-in_err-statement-clause-parsed
put_parent-returns-in_err-statement-clause-parsed g t c =
    let spans = c.args.tokens.now.spans in
    let read =
    opened_by spans (here spans c.args.left) (around_of c.args.around) (parent_opening c.args.parent) c.args.span c.args.tokens.now.left in
    let ss = statement_nodes_in c.args.statements.now.items in
    let refused : RefusedStep (put_behind read ss) c.in_err-statement.field-0.0 = put_fails read ss _ c.in_err-statement.ensures.parsed in
    search rules

pub put_opened-returns-in_ok-for_loop-in-Loop-clause-parsed : goal.put_opened-returns-in_ok-for_loop-in-Loop-clause-parsed
unfolding opened_by
put_opened-returns-in_ok-for_loop-in-Loop-clause-parsed g t c =
    let spans = c.args.tokens.now.spans in
    let r = here spans c.args.left in
    let p = around_of c.args.around in
    put_node (opened_by spans r p (opening_of c.args.opening) c.args.span c.args.tokens.now.left) (statement_nodes_in c.args.statements.now.items)
    _ _ _ _ (ap (λ o. opened_by spans r p o c.args.span c.args.tokens.now.left) (sym c.in-Loop.ensures) ∙ c.in_ok-for_loop-in-Loop.ensures.parsed)
    c.put_loop.ensures.put c.put_loop.ensures.refused

pub put_opened-returns-in_err-for_loop-in-Loop-clause-parsed : goal.put_opened-returns-in_err-for_loop-in-Loop-clause-parsed
unfolding opened_by
put_opened-returns-in_err-for_loop-in-Loop-clause-parsed g t c =
    let spans = c.args.tokens.now.spans in
    let r = here spans c.args.left in
    let p = around_of c.args.around in
    let read = opened_by spans r p (opening_of c.args.opening) c.args.span c.args.tokens.now.left in
    let ss = statement_nodes_in c.args.statements.now.items in
    let refused : RefusedStep (put_behind read ss) c.in_err-for_loop-in-Loop.field-0.0 =
    put_fails read ss _ (subst (λ o. Refused (opened_by spans r p o c.args.span c.args.tokens.now.left) c.in_err-for_loop-in-Loop.field-0.0) c.in-Loop.ensures
    c.in_err-for_loop-in-Loop.ensures.parsed) in
    search rules

pub put_opened-returns-in_ok-if_condition-in-Condition-clause-parsed : goal.put_opened-returns-in_ok-if_condition-in-Condition-clause-parsed
unfolding opened_by
put_opened-returns-in_ok-if_condition-in-Condition-clause-parsed g t c =
    let spans = c.args.tokens.now.spans in
    let r = here spans c.args.left in
    let p = around_of c.args.around in
    put_node (opened_by spans r p (opening_of c.args.opening) c.args.span c.args.tokens.now.left) (statement_nodes_in c.args.statements.now.items)
    _ _ _ _ (ap (λ o. opened_by spans r p o c.args.span c.args.tokens.now.left) (sym c.in-Condition.ensures) ∙ c.in_ok-if_condition-in-Condition.ensures.parsed)
    c.put_condition.ensures.put c.put_condition.ensures.refused

pub put_opened-returns-in_err-if_condition-in-Condition-clause-parsed : goal.put_opened-returns-in_err-if_condition-in-Condition-clause-parsed
unfolding opened_by
put_opened-returns-in_err-if_condition-in-Condition-clause-parsed g t c =
    let spans = c.args.tokens.now.spans in
    let r = here spans c.args.left in
    let p = around_of c.args.around in
    let read = opened_by spans r p (opening_of c.args.opening) c.args.span c.args.tokens.now.left in
    let ss = statement_nodes_in c.args.statements.now.items in
    let refused : RefusedStep (put_behind read ss) c.in_err-if_condition-in-Condition.field-0.0 =
    put_fails read ss _ (subst (λ o. Refused (opened_by spans r p o c.args.span c.args.tokens.now.left) c.in_err-if_condition-in-Condition.field-0.0)
    c.in-Condition.ensures c.in_err-if_condition-in-Condition.ensures.parsed) in
    search rules
