use Rattle.std.proofs.Common.{refl, sym, ◌∙◌, ap, rules}
use Rattle.template_compiler_stream.specs.Signs.{level_of}
use Rattle.template_compiler_stream.specs.Refusals.{Refused}
use Rattle.template_compiler_grammar.specs.Reader.{deeper, expression_by, items_step, negation_by, operand_by, pairs_step, power_by, terms_by, unary_by}
use Rattle.template_compiler_grammar.specs.Views.{node_of, nodes_in, placed_argument_of}
use Rattle.template_compiler_grammar.proofs.Pushes.{nodes_push}
use Rattle.template_compiler_expression_parts.specs.Parsed.{RefusedStep, paired_in}
use Rattle.template_compiler_expression_parts.proofs.Rounds.{next_operand_goes, next_operand_refused, operand_none, rounds_end, rounds_go, rounds_refused}
use Rattle.template_compiler_expression_parser.proofs.Alone.{parsed_alone, parsed_expression_alone, parsed_sum_alone}
use Rattle.template_compiler_expression_parser.proofs.Stays.{expression_goes, expression_refused, expression_stays, negation_goes, negation_refused, negation_stays, no_word, operators_end, power_goes, power_refused, power_stays, sum_goes, sum_refused, sum_stays, unary_goes, unary_refused, unary_stays}
use Rattle.template_compiler_grammar.proofs.Sound.{operands_fall, parts_fall, filters_fall, links_fall}
use Rattle.template_compiler_expression_parser.proofs.Falls.{items_fall, pairs_fall, arguments_fall}
use Rattle.template_compiler_expression_parser.proofs.Items.{argument_goes, item_goes, item_refused, item_unseparated, key_refused, pair_goes, pair_unseparated, value_refused}
use Rattle.template_compiler_expression_parser.proofs.Subscripts.{item_read}
use Rattle.template_compiler_expression_parser.proofs.expressions.+parser.Goals as goal

pub binary-returns-then-begins_alone-clause-parsed : goal.binary-returns-then-begins_alone-clause-parsed
binary-returns-then-begins_alone-clause-parsed t c =
    parsed_alone _ (deeper _ c.args.left) (level_of c.args.level) _ _ _ (sym c.begins_alone.ensures ∙ c.if-begins_alone.true)
    c.literal.ensures.parsed

pub parts-returns-in-Ok-Stops-clause-parsed : goal.parts-returns-in-Ok-Stops-clause-parsed
parts-returns-in-Ok-Stops-clause-parsed t c =
    let ended = rw c.loop-next.invariant.0 at (rw c.in-Ok-Stops.field-0-is at c.in-Ok-Stops.ensures.parsed) in
    rounds_end _ _ _ _ _ _ _ c.loop-next.invariant.1 ended

pub parts-returns-in-Err-clause-parsed : goal.parts-returns-in-Err-clause-parsed
parts-returns-in-Err-clause-parsed t c =
    let now = rw c.loop-next.invariant.0 at c.in-Err.ensures.parsed in
    rounds_refused _ _ _ _ _ c.in-Err.refusal c.loop-next.invariant.1 now

pub parts-loop-next-preserved : goal.parts-loop-next-preserved
parts-loop-next-preserved t c =
    let more = rw c.loop-next.invariant.0 at (rw c.in-Ok-Goes.field-0-is at c.in-Ok-Goes.ensures.parsed) in
    (c.in-Ok-Goes.ensures.spans ∙ c.loop-next.invariant.0, rounds_go _ (parts_fall _ c.args.left _) _ _ _ _ _ _ c.loop-next.invariant.1 more)

pub parts-loop-next-smaller : goal.parts-loop-next-smaller
parts-loop-next-smaller t c =
    let more = rw c.in-Ok-Goes.field-0-is at c.in-Ok-Goes.ensures.parsed in
    parts_fall _ c.args.left _ (node_of c.loop-next.value) (node_of c.in-Ok-Goes.next) _ _ more

pub filters-returns-in-Ok-Stops-clause-parsed : goal.filters-returns-in-Ok-Stops-clause-parsed
filters-returns-in-Ok-Stops-clause-parsed t c =
    let ended = rw c.loop-next.invariant.0 at (rw c.in-Ok-Stops.field-0-is at c.in-Ok-Stops.ensures.parsed) in
    rounds_end _ _ _ _ _ _ _ c.loop-next.invariant.1 ended

pub filters-returns-in-Err-clause-parsed : goal.filters-returns-in-Err-clause-parsed
filters-returns-in-Err-clause-parsed t c =
    let now = rw c.loop-next.invariant.0 at c.in-Err.ensures.parsed in
    rounds_refused _ _ _ _ _ c.in-Err.refusal c.loop-next.invariant.1 now

pub filters-loop-next-preserved : goal.filters-loop-next-preserved
filters-loop-next-preserved t c =
    let more = rw c.loop-next.invariant.0 at (rw c.in-Ok-Goes.field-0-is at c.in-Ok-Goes.ensures.parsed) in
    (c.in-Ok-Goes.ensures.spans ∙ c.loop-next.invariant.0, rounds_go _ (filters_fall _ c.args.left _) _ _ _ _ _ _ c.loop-next.invariant.1 more)

pub filters-loop-next-smaller : goal.filters-loop-next-smaller
filters-loop-next-smaller t c =
    let more = rw c.in-Ok-Goes.field-0-is at c.in-Ok-Goes.ensures.parsed in
    filters_fall _ c.args.left _ (node_of c.loop-next.value) (node_of c.in-Ok-Goes.next) _ _ more

pub links-returns-in-Ok-false-clause-parsed : goal.links-returns-in-Ok-false-clause-parsed
links-returns-in-Ok-false-clause-parsed t c =
    let ended = rw c.loop-links.invariant.0 at (rw c.in-Ok-false.field-0-test at c.in-Ok-false.ensures.parsed) in
    rounds_end _ _ _ _ _ _ _ c.loop-links.invariant.1 ended

pub links-returns-in-Err-clause-parsed : goal.links-returns-in-Err-clause-parsed
links-returns-in-Err-clause-parsed t c =
    let now = rw c.loop-links.invariant.0 at c.in-Err.ensures.parsed in
    rounds_refused _ _ _ _ _ c.in-Err.refusal c.loop-links.invariant.1 now

pub links-loop-links-preserved : goal.links-loop-links-preserved
links-loop-links-preserved t c =
    let more = rw c.loop-links.invariant.0 at (rw c.in-Ok-true.field-0-test at c.in-Ok-true.ensures.parsed) in
    (c.in-Ok-true.ensures.spans ∙ c.loop-links.invariant.0, rounds_go _ (links_fall _ c.args.left) _ _ _ _ _ _ c.loop-links.invariant.1 more)

pub links-loop-links-smaller : goal.links-loop-links-smaller
links-loop-links-smaller t c =
    let more = rw c.in-Ok-true.field-0-test at c.in-Ok-true.ensures.parsed in
    links_fall _ c.args.left _ _ _ _ more

pub items-returns-in-Ok-false-clause-parsed : goal.items-returns-in-Ok-false-clause-parsed
items-returns-in-Ok-false-clause-parsed t c =
    let ended = rw c.loop-held.invariant.0 at (rw c.in-Ok-false.field-0-test at c.in-Ok-false.ensures.parsed) in
    rounds_end _ _ _ _ _ _ _ c.loop-held.invariant.1 ended

pub items-returns-in-Err-clause-parsed : goal.items-returns-in-Err-clause-parsed
items-returns-in-Err-clause-parsed t c =
    let now = rw c.loop-held.invariant.0 at c.in-Err.ensures.parsed in
    rounds_refused _ _ _ _ _ c.in-Err.refusal c.loop-held.invariant.1 now

pub items-loop-held-preserved : goal.items-loop-held-preserved
items-loop-held-preserved t c =
    let more = rw c.loop-held.invariant.0 at (rw c.in-Ok-true.field-0-test at c.in-Ok-true.ensures.parsed) in
    (c.in-Ok-true.ensures.spans ∙ c.loop-held.invariant.0, rounds_go _ (items_fall _ c.args.left) _ _ _ _ _ _ c.loop-held.invariant.1 more)

pub items-loop-held-smaller : goal.items-loop-held-smaller
items-loop-held-smaller t c =
    let more = rw c.in-Ok-true.field-0-test at c.in-Ok-true.ensures.parsed in
    items_fall _ c.args.left _ _ _ _ more

pub pairs-returns-in-Ok-false-clause-parsed : goal.pairs-returns-in-Ok-false-clause-parsed
pairs-returns-in-Ok-false-clause-parsed t c =
    let ended = rw c.loop-held.invariant.0 at (rw c.in-Ok-false.field-0-test at c.in-Ok-false.ensures.parsed) in
    rounds_end _ _ _ _ _ _ _ c.loop-held.invariant.1 ended

pub pairs-returns-in-Err-clause-parsed : goal.pairs-returns-in-Err-clause-parsed
pairs-returns-in-Err-clause-parsed t c =
    let now = rw c.loop-held.invariant.0 at c.in-Err.ensures.parsed in
    rounds_refused _ _ _ _ _ c.in-Err.refusal c.loop-held.invariant.1 now

pub pairs-loop-held-preserved : goal.pairs-loop-held-preserved
pairs-loop-held-preserved t c =
    let more = rw c.loop-held.invariant.0 at (rw c.in-Ok-true.field-0-test at c.in-Ok-true.ensures.parsed) in
    (c.in-Ok-true.ensures.spans ∙ c.loop-held.invariant.0, rounds_go _ (pairs_fall _ c.args.left) _ _ _ _ _ _ c.loop-held.invariant.1 more)

pub pairs-loop-held-smaller : goal.pairs-loop-held-smaller
pairs-loop-held-smaller t c =
    let more = rw c.in-Ok-true.field-0-test at c.in-Ok-true.ensures.parsed in
    pairs_fall _ c.args.left _ _ _ _ more

pub written-returns-in-Ok-false-clause-parsed : goal.written-returns-in-Ok-false-clause-parsed
written-returns-in-Ok-false-clause-parsed t c =
    let ended = rw c.loop-held.invariant.0 at (rw c.in-Ok-false.field-0-test at c.in-Ok-false.ensures.parsed) in
    rounds_end _ _ _ _ _ _ _ c.loop-held.invariant.1 ended

pub written-returns-in-Err-clause-parsed : goal.written-returns-in-Err-clause-parsed
written-returns-in-Err-clause-parsed t c =
    let now = rw c.loop-held.invariant.0 at c.in-Err.ensures.parsed in
    rounds_refused _ _ _ _ _ c.in-Err.refusal c.loop-held.invariant.1 now

pub written-loop-held-preserved : goal.written-loop-held-preserved
written-loop-held-preserved t c =
    let more = rw c.loop-held.invariant.0 at (rw c.in-Ok-true.field-0-test at c.in-Ok-true.ensures.parsed) in
    (c.in-Ok-true.ensures.spans ∙ c.loop-held.invariant.0, rounds_go _ (arguments_fall _ c.args.left) _ _ _ _ _ _ c.loop-held.invariant.1 more)

pub written-loop-held-smaller : goal.written-loop-held-smaller
written-loop-held-smaller t c =
    let more = rw c.in-Ok-true.field-0-test at c.in-Ok-true.ensures.parsed in
    arguments_fall _ c.args.left _ _ _ _ more

pub next_item-returns-clause-parsed : goal.next_item-returns-clause-parsed
next_item-returns-clause-parsed t c =
    item_goes c.args.tokens.now.spans
    (expression_by c.args.tokens.now.spans (deeper c.args.tokens.now.spans c.args.left)) _ _ (node_of c.in-Ok.item) _ _ _ (sym c.closes.ensures ∙ c.if-closes.false) c.in-Ok.ensures.parsed
    (ap nodes_in c.in_ok-push.ensures.items ∙ nodes_push _ _) c.in_ok-separated.ensures.parsed

pub next_pair-returns-clause-parsed : goal.next_pair-returns-clause-parsed
next_pair-returns-clause-parsed t c =
    let value = rw c.in-Ok.ensures.spans at c.in-Ok-expression.ensures.parsed in
    pair_goes c.args.tokens.now.spans
    (expression_by c.args.tokens.now.spans (deeper c.args.tokens.now.spans c.args.left)) _ _ (node_of c.in-Ok.key) (node_of c.in-Ok-expression.value) _ _ _ _ (sym c.closes.ensures ∙ c.if-closes.false)
    c.in-Ok.ensures.parsed value c.in_ok-push.ensures c.in_ok-separated.ensures.parsed

pub next_argument-returns-clause-parsed : goal.next_argument-returns-clause-parsed
next_argument-returns-clause-parsed t c =
    argument_goes c.args.tokens.now.spans
    (expression_by c.args.tokens.now.spans (deeper c.args.tokens.now.spans c.args.left)) _ _ (placed_argument_of c.in-Ok.argument) _ _ _ (sym c.closes.ensures ∙ c.if-closes.false)
    c.in-Ok.ensures.parsed c.in_ok-push.ensures c.in_ok-separated.ensures.parsed

pub next_item-returns-in-Err-clause-parsed : goal.next_item-returns-in-Err-clause-parsed
next_item-returns-in-Err-clause-parsed t c =
    item_refused c.args.tokens.now.spans
    (expression_by c.args.tokens.now.spans (deeper c.args.tokens.now.spans c.args.left)) _ _ c.in-Err.refusal (sym c.closes.ensures ∙ c.if-closes.false) c.in-Err.ensures.parsed

pub next_pair-returns-in-Err-clause-parsed : goal.next_pair-returns-in-Err-clause-parsed
next_pair-returns-in-Err-clause-parsed t c =
    key_refused c.args.tokens.now.spans
    (expression_by c.args.tokens.now.spans (deeper c.args.tokens.now.spans c.args.left)) _ _ c.in-Err.refusal (sym c.closes.ensures ∙ c.if-closes.false) c.in-Err.ensures.parsed

pub next_pair-returns-in-Err-expression-clause-parsed : goal.next_pair-returns-in-Err-expression-clause-parsed
next_pair-returns-in-Err-expression-clause-parsed t c =
    let value = rw c.in-Ok.ensures.spans at c.in-Err-expression.ensures.parsed in
    value_refused c.args.tokens.now.spans
    (expression_by c.args.tokens.now.spans (deeper c.args.tokens.now.spans c.args.left)) _ (node_of c.in-Ok.key) _ _ c.in-Err-expression.refusal (sym c.closes.ensures ∙ c.if-closes.false)
    c.in-Ok.ensures.parsed value

pub next_item-returns-in_err-separated-clause-parsed : goal.next_item-returns-in_err-separated-clause-parsed
next_item-returns-in_err-separated-clause-parsed t c =
    let refused : RefusedStep (items_step c.args.tokens.now.spans (expression_by c.args.tokens.now.spans (deeper c.args.tokens.now.spans c.args.left))
    (nodes_in c.args.held.now.items) c.args.tokens.now.left) c.in_err-separated.field-0.0 =
    item_unseparated c.args.tokens.now.spans
    (expression_by c.args.tokens.now.spans (deeper c.args.tokens.now.spans c.args.left)) _ (node_of c.in-Ok.item) _ _ c.in_err-separated.field-0.0 (sym c.closes.ensures ∙ c.if-closes.false)
    c.in-Ok.ensures.parsed c.in_err-separated.ensures.parsed in
    search rules

pub next_pair-returns-in_err-separated-clause-parsed : goal.next_pair-returns-in_err-separated-clause-parsed
next_pair-returns-in_err-separated-clause-parsed t c =
    let value = rw c.in-Ok.ensures.spans at c.in-Ok-expression.ensures.parsed in
    let refused : RefusedStep (pairs_step c.args.tokens.now.spans (expression_by c.args.tokens.now.spans (deeper c.args.tokens.now.spans c.args.left))
    (paired_in c.args.held.now) c.args.tokens.now.left) c.in_err-separated.field-0.0 =
    pair_unseparated c.args.tokens.now.spans
    (expression_by c.args.tokens.now.spans (deeper c.args.tokens.now.spans c.args.left)) _ (node_of c.in-Ok.key) (node_of c.in-Ok-expression.value) _ _ _ c.in_err-separated.field-0.0
    (sym c.closes.ensures ∙ c.if-closes.false) c.in-Ok.ensures.parsed value c.in_err-separated.ensures.parsed in
    search rules

pub subscript-returns-in-Some-clause-parsed : goal.subscript-returns-in-Some-clause-parsed
subscript-returns-in-Some-clause-parsed t c =
    let bare = rw c.if-skip.false at c.skip.ensures.passed in
    let found = rw c.in-Some.is at c.in_ok-start.ensures.parsed in
    item_read c.args.tokens.now.spans c.skip.new.self.spans (expression_by c.args.tokens.now.spans (deeper c.args.tokens.now.spans c.args.left))
    c.args.span c.span_through_next-span.result (node_of c.args.value) (node_of c.in-Some.key) c.in_ok-item-in-Some.field-0 c.args.tokens.now.left
    c.bound.new.tokens.left c.skip.new.self.left c.in_brackets.new.tokens.left c.in_brackets.result found bare.0 bare.1
    (c.skip.ensures.spans ∙ c.in_ok-start.ensures.spans) c.span_through_next-span.ensures c.in_ok-item-in-Some.ensures.tree
    c.in_ok-item-in-Some.ensures.places c.in_brackets.ensures.parsed

pub expression-returns-then-begins_alone-clause-parsed : goal.expression-returns-then-begins_alone-clause-parsed
expression-returns-then-begins_alone-clause-parsed t c =
    parsed_expression_alone _ (deeper _ c.args.left) _ _ _ (sym c.begins_alone.ensures ∙ c.if-begins_alone.true) c.literal.ensures.parsed

pub expression-returns-then-is_none-clause-parsed : goal.expression-returns-then-is_none-clause-parsed
expression-returns-then-is_none-clause-parsed t c =
    expression_stays _ (deeper _ c.args.left) _ _ _ (no_word _ c.word.result _ c.is_none.result c.word.ensures c.is_none.ensures c.if-is_none.true)
    c.negation-first.ensures.parsed

pub sum-returns-then-begins_alone-clause-parsed : goal.sum-returns-then-begins_alone-clause-parsed
sum-returns-then-begins_alone-clause-parsed t c =
    parsed_sum_alone _ (deeper _ c.args.left) _ _ _ (sym c.begins_alone.ensures ∙ c.if-begins_alone.true) c.literal.ensures.parsed

pub sum-returns-then-not-begins_sum-clause-parsed : goal.sum-returns-then-not-begins_sum-clause-parsed
sum-returns-then-not-begins_sum-clause-parsed t c =
    sum_stays _ (deeper _ c.args.left) _ _ _ (sym c.begins_sum.ensures ∙ c.if-not-begins_sum.true) c.power-first.ensures.parsed

pub power-returns-then-not-begins_filter-clause-parsed : goal.power-returns-then-not-begins_filter-clause-parsed
power-returns-then-not-begins_filter-clause-parsed t c =
    power_stays _ (deeper _ c.args.left) _ _ _ (c.begins_filter.ensures c.if-not-begins_filter.true) c.unary-first.ensures.parsed

pub expression-returns-in_err-first-clause-parsed : goal.expression-returns-in_err-first-clause-parsed
expression-returns-in_err-first-clause-parsed t c =
    let refused : Refused (expression_by c.args.tokens.now.spans (deeper c.args.tokens.now.spans c.args.left) c.args.tokens.now.left)
    c.in_err-first.field-0.0 = expression_refused _ _ _ _ c.in_err-first.ensures.parsed in
    search rules

pub expression-returns-clause-parsed : goal.expression-returns-clause-parsed
expression-returns-clause-parsed t c =
    let behind = rw c.span-span.ensures at (rw c.negation-first.ensures.spans at c.choice.ensures.parsed) in
    expression_goes _ (deeper _ c.args.left) _ (node_of c.in_ok-first.field-0) _ _ _ c.in_ok-first.ensures.parsed behind

pub sum-returns-in_err-first-clause-parsed : goal.sum-returns-in_err-first-clause-parsed
sum-returns-in_err-first-clause-parsed t c =
    let refused : Refused (terms_by c.args.tokens.now.spans (deeper c.args.tokens.now.spans c.args.left) c.args.tokens.now.left)
    c.in_err-first.field-0.0 = sum_refused _ _ _ _ c.in_err-first.ensures.parsed in
    search rules

pub sum-returns-clause-parsed : goal.sum-returns-clause-parsed
sum-returns-clause-parsed t c =
    let behind = rw c.span-span.ensures at (rw c.power-first.ensures.spans at c.sum_behind.ensures.parsed) in
    sum_goes _ (deeper _ c.args.left) _ (node_of c.in_ok-first.field-0) _ _ _ c.in_ok-first.ensures.parsed behind

pub power-returns-in_err-first-clause-parsed : goal.power-returns-in_err-first-clause-parsed
power-returns-in_err-first-clause-parsed t c =
    let refused : Refused (power_by c.args.tokens.now.spans (deeper c.args.tokens.now.spans c.args.left) c.args.tokens.now.left)
    c.in_err-first.field-0.0 = power_refused _ _ _ _ c.in_err-first.ensures.parsed in
    search rules

pub power-returns-clause-parsed : goal.power-returns-clause-parsed
power-returns-clause-parsed t c =
    let behind = rw c.span-span.ensures at (rw c.unary-first.ensures.spans at c.power_behind.ensures.parsed) in
    power_goes _ (deeper _ c.args.left) _ (node_of c.in_ok-first.field-0) _ _ _ c.in_ok-first.ensures.parsed behind

pub operands-loop-op-preserved : goal.operands-loop-op-preserved
operands-loop-op-preserved t c =
    let same = c.in-Some.ensures.spans ∙ c.loop-op.invariant.0 in
    let right = rw same at c.in-Ok.ensures.parsed in
    let whole = rw (c.in-Ok.ensures.spans ∙ same) at c.expand_span.ensures in
    let more = next_operand_goes c.args.tokens.now.spans (level_of c.args.level) (operand_by c.args.tokens.now.spans (deeper c.args.tokens.now.spans c.args.left) (level_of c.args.level)) c.args.span _ (node_of c.loop-op.value) _ _ _ _ _
    c.in-Some.op c.in-Some.ensures.operator c.in-Some.ensures.passed right c.in_ok-value.ensures.tree c.in_ok-value.ensures.places whole in
    (c.in-Ok.ensures.spans ∙ same, rounds_go _ (operands_fall _ c.args.left (level_of c.args.level) _) _ _ _ _ _ _ c.loop-op.invariant.1 more)

pub operands-loop-op-smaller : goal.operands-loop-op-smaller
operands-loop-op-smaller t c =
    let same = c.in-Some.ensures.spans ∙ c.loop-op.invariant.0 in
    let right = rw same at c.in-Ok.ensures.parsed in
    let whole = rw (c.in-Ok.ensures.spans ∙ same) at c.expand_span.ensures in
    let more = next_operand_goes c.args.tokens.now.spans (level_of c.args.level) (operand_by c.args.tokens.now.spans (deeper c.args.tokens.now.spans c.args.left) (level_of c.args.level)) c.args.span _ (node_of c.loop-op.value) _ _ _ _ _
    c.in-Some.op c.in-Some.ensures.operator c.in-Some.ensures.passed right c.in_ok-value.ensures.tree c.in_ok-value.ensures.places whole in
    operands_fall _ c.args.left (level_of c.args.level) _ (node_of c.loop-op.value) _ _ _ more

pub operands-returns-in-Err-clause-parsed : goal.operands-returns-in-Err-clause-parsed
operands-returns-in-Err-clause-parsed t c =
    let right = rw (c.in-Some.ensures.spans ∙ c.loop-op.invariant.0) at c.in-Err.ensures.parsed in
    rounds_refused _ _ _ _ _ c.in-Err.refusal c.loop-op.invariant.1
    (next_operand_refused c.args.tokens.now.spans (level_of c.args.level) (operand_by c.args.tokens.now.spans (deeper c.args.tokens.now.spans c.args.left) (level_of c.args.level)) c.args.span (node_of c.loop-op.value) _ _
    c.in-Some.op c.in-Err.refusal c.in-Some.ensures.operator c.in-Some.ensures.passed right)

pub operands-returns-clause-parsed : goal.operands-returns-clause-parsed
operands-returns-clause-parsed t c =
    rounds_end _ _ _ _ _ _ _ c.loop-op.invariant.1 (operand_none _ _ _ _ _ _ (sym c.in_default.ensures.operator), c.in_default.ensures.passed, refl)

pub negation-returns-then-not-begins_operator-clause-parsed : goal.negation-returns-then-not-begins_operator-clause-parsed
negation-returns-then-not-begins_operator-clause-parsed t c =
    let bare = rw c.if-skip_word.false at c.skip_word.ensures.passed in
    let read = rw c.skip_word.ensures.spans at c.unary-first.ensures.parsed in
    negation_stays c.args.tokens.now.spans (deeper c.args.tokens.now.spans c.args.left) _ _ bare.0 _ _ bare.1 (c.begins_operator.ensures c.if-not-begins_operator.true) read

pub negation-returns-in_err-first-clause-parsed : goal.negation-returns-in_err-first-clause-parsed
negation-returns-in_err-first-clause-parsed t c =
    let bare = rw c.if-skip_word.false at c.skip_word.ensures.passed in
    let read = rw c.skip_word.ensures.spans at c.in_err-first.ensures.parsed in
    let refused : Refused (negation_by c.args.tokens.now.spans (deeper c.args.tokens.now.spans c.args.left) c.args.tokens.now.left) c.in_err-first.field-0.0 =
    negation_refused c.args.tokens.now.spans (deeper c.args.tokens.now.spans c.args.left) _ _ bare.0 _ bare.1 read in
    search rules

pub negation-returns-clause-parsed : goal.negation-returns-clause-parsed
negation-returns-clause-parsed t c =
    let bare = rw c.if-skip_word.false at c.skip_word.ensures.passed in
    let read = rw c.skip_word.ensures.spans at c.in_ok-first.ensures.parsed in
    let behind = rw c.span-span.ensures at (rw (c.unary-first.ensures.spans ∙ c.skip_word.ensures.spans) at c.operators.ensures.parsed) in
    negation_goes c.args.tokens.now.spans (deeper c.args.tokens.now.spans c.args.left) _ _ bare.0 (node_of c.in_ok-first.field-0) _ _ _ bare.1 read behind

pub unary-returns-then-not-begins_part-clause-parsed : goal.unary-returns-then-not-begins_part-clause-parsed
unary-returns-then-not-begins_part-clause-parsed t c =
    let bare = rw c.if-skip.false at c.skip.ensures.passed in
    let read = rw c.skip.ensures.spans at c.primary-first.ensures.parsed in
    unary_stays c.args.tokens.now.spans (deeper c.args.tokens.now.spans c.args.left) _ _ bare.0 _ _ bare.1 (sym c.begins_part.ensures ∙ c.if-not-begins_part.true) read

pub unary-returns-in_err-first-clause-parsed : goal.unary-returns-in_err-first-clause-parsed
unary-returns-in_err-first-clause-parsed t c =
    let bare = rw c.if-skip.false at c.skip.ensures.passed in
    let read = rw c.skip.ensures.spans at c.in_err-first.ensures.parsed in
    let refused : Refused (unary_by c.args.tokens.now.spans (deeper c.args.tokens.now.spans c.args.left) c.args.tokens.now.left) c.in_err-first.field-0.0 =
    unary_refused c.args.tokens.now.spans (deeper c.args.tokens.now.spans c.args.left) _ _ bare.0 _ bare.1 read in
    search rules

pub unary-returns-clause-parsed : goal.unary-returns-clause-parsed
unary-returns-clause-parsed t c =
    let bare = rw c.if-skip.false at c.skip.ensures.passed in
    let read = rw c.skip.ensures.spans at c.in_ok-first.ensures.parsed in
    let behind = rw c.span-span.ensures at (rw (c.primary-first.ensures.spans ∙ c.skip.ensures.spans) at c.parts.ensures.parsed) in
    unary_goes c.args.tokens.now.spans (deeper c.args.tokens.now.spans c.args.left) _ _ bare.0 (node_of c.in_ok-first.field-0) _ _ _ bare.1 read behind

pub operators-returns-else-begins_link-clause-parsed : goal.operators-returns-else-begins_link-clause-parsed
operators-returns-else-begins_link-clause-parsed t c =
    let sum = rw c.in_ok-value.ensures.spans at c.in_ok-value-2.ensures.parsed in
    operators_end c.args.tokens.now.spans (deeper c.args.tokens.now.spans c.args.left) c.args.span _ _ _ _ _ _ c.in_ok-value.ensures.parsed sum (c.begins_link.ensures c.if-begins_link.false)
