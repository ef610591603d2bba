use Rattle.std.proofs.Common.{sym, ◌∙◌, ap}
use Rattle.template_compiler_syntax.specs.Stripping.{stripped_from, less_blanks}
use Rattle.template_compiler_syntax.proofs.Data.{begun_text, begin_at, minus_text, blanks_text, rest_text, blanks_cut, minus_within, blanks_within, rest_within}
use Rattle.template_compiler_syntax.proofs.stripping.data_between.Goals as goal

pub split_at-requires : goal.split_at-requires
split_at-requires c =
    let x = c.args.syntax.now in
    let s = c.args.source.now in
    let r = c.without_start-text.result.now in
    let begin = stripped_from x s c.args.left c.args.from c.args.to in
    let high = c.requires.end.0 in
    let has =
    begun_text x s c.range.result.now r c.args.left c.args.from c.args.to c.requires.ordered high c.range.ensures.value
    c.without_start-text.ensures.text c.without_start-text.ensures.bound c.without_start-text.ensures.tail in
    let at = c.less_blanks-end.ensures ∙ ap (λ t. less_blanks t c.args.to) c.as_bytes.ensures.value in
    blanks_cut s r c.args.from begin c.args.to c.less_blanks-end.result c.saturating_sub.result has high c.without_start-text.utf8 at
    (begin_at s r c.args.from begin c.args.to has high) c.saturating_sub.ensures

pub returns-then-is_minus-clause-text : goal.returns-then-is_minus-clause-text
returns-then-is_minus-clause-text c =
    let x = c.args.syntax.now in
    let s = c.args.source.now in
    let r = c.without_start-text.result.now in
    let begin = stripped_from x s c.args.left c.args.from c.args.to in
    let high = c.requires.end.0 in
    let has =
    begun_text x s c.range.result.now r c.args.left c.args.from c.args.to c.requires.ordered high c.range.ensures.value
    c.without_start-text.ensures.text c.without_start-text.ensures.bound c.without_start-text.ensures.tail in
    let trimmed = c.trim_end.ensures.value in
    minus_text x s r c.trim_end.result.now c.args.right c.args.from begin c.args.to trimmed.0 has high
    (sym c.is_minus.ensures ∙ c.if-is_minus.true) c.trim_end.ensures.trim trimmed.1 trimmed.4 trimmed.5

pub returns-then-strips_blanks-clause-text : goal.returns-then-strips_blanks-clause-text
returns-then-strips_blanks-clause-text c =
    let x = c.args.syntax.now in
    let s = c.args.source.now in
    let r = c.without_start-text.result.now in
    let begin = stripped_from x s c.args.left c.args.from c.args.to in
    let high = c.requires.end.0 in
    let has =
    begun_text x s c.range.result.now r c.args.left c.args.from c.args.to c.requires.ordered high c.range.ensures.value
    c.without_start-text.ensures.text c.without_start-text.ensures.bound c.without_start-text.ensures.tail in
    let at = c.less_blanks-end.ensures ∙ ap (λ t. less_blanks t c.args.to) c.as_bytes.ensures.value in
    blanks_text x s r c.split_at.result.0.now c.args.right c.args.from begin c.args.to c.less_blanks-end.result c.saturating_sub.result has high
    (sym c.strips_blanks.ensures ∙ c.if-strips_blanks.true) at (begin_at s r c.args.from begin c.args.to has high)
    c.saturating_sub.ensures c.split_at.ensures.front

pub returns-else-strips_blanks-clause-text : goal.returns-else-strips_blanks-clause-text
returns-else-strips_blanks-clause-text c =
    let x = c.args.syntax.now in
    let s = c.args.source.now in
    let r = c.without_start-text.result.now in
    let begin = stripped_from x s c.args.left c.args.from c.args.to in
    let high = c.requires.end.0 in
    let has =
    begun_text x s c.range.result.now r c.args.left c.args.from c.args.to c.requires.ordered high c.range.ensures.value
    c.without_start-text.ensures.text c.without_start-text.ensures.bound c.without_start-text.ensures.tail in
    rest_text x s r c.args.right c.args.from begin c.args.to has (sym c.is_minus.ensures ∙ c.if-is_minus.false)
    (sym c.strips_blanks.ensures ∙ c.if-strips_blanks.false)

pub returns-then-is_minus-clause-within : goal.returns-then-is_minus-clause-within
returns-then-is_minus-clause-within c =
    let x = c.args.syntax.now in
    let s = c.args.source.now in
    let r = c.without_start-text.result.now in
    let begin = stripped_from x s c.args.left c.args.from c.args.to in
    let high = c.requires.end.0 in
    let has =
    begun_text x s c.range.result.now r c.args.left c.args.from c.args.to c.requires.ordered high c.range.ensures.value
    c.without_start-text.ensures.text c.without_start-text.ensures.bound c.without_start-text.ensures.tail in
    let trimmed = c.trim_end.ensures.value in
    minus_within x s r c.trim_end.result.now c.args.right c.args.from begin c.args.to trimmed.0 has high
    (sym c.is_minus.ensures ∙ c.if-is_minus.true) c.trim_end.ensures.trim trimmed.4 trimmed.5

pub returns-then-strips_blanks-clause-within : goal.returns-then-strips_blanks-clause-within
returns-then-strips_blanks-clause-within c =
    let x = c.args.syntax.now in
    let s = c.args.source.now in
    let begin = stripped_from x s c.args.left c.args.from c.args.to in
    blanks_within x s c.args.right begin c.args.to (sym c.strips_blanks.ensures ∙ c.if-strips_blanks.true)

pub returns-else-strips_blanks-clause-within : goal.returns-else-strips_blanks-clause-within
returns-else-strips_blanks-clause-within c =
    let x = c.args.syntax.now in
    let s = c.args.source.now in
    let begin = stripped_from x s c.args.left c.args.from c.args.to in
    rest_within x s c.args.right begin c.args.to (sym c.is_minus.ensures ∙ c.if-is_minus.false) (sym c.strips_blanks.ensures ∙ c.if-strips_blanks.false)
