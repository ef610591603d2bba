use Rattle.std.proofs.Common.{◌+◌, count_by, sym, ◌∙◌, ap, arith}
use Rattle.template_compiler_tokens.specs.Bytes.{is_newline, begins_character}
use Rattle.template_compiler_tokens.proofs.Counting.{column_along, column_behind_last, newlines_between, newlines_by_last, no_newline}
use Rattle.template_compiler_tokens.proofs.counts.count_many.Goals as goal

pub returns-in-Some-clause-newlines : goal.returns-in-Some-clause-newlines
returns-in-Some-clause-newlines c =
    let s = c.args.bytes.now in
    let found = c.in-Some.ensures in
    c.count_between.ensures ∙ newlines_between c.split_at.result.0.now ∙ ap (λ t. count_by is_newline t) c.split_at.ensures.front ∙
    newlines_by_last s c.in-Some.last found.0.high found.1 found.0.after

pub returns-in-Some-clause-column : goal.returns-in-Some-clause-column
returns-in-Some-clause-column c =
    let s = c.args.bytes.now in
    let found = c.in-Some.ensures in
    c.count_characters.ensures ∙ ap (λ t. count_by begins_character t) c.split_at.ensures.back ∙
    sym (column_behind_last s c.in-Some.last found.0.high found.1 found.0.after c.args.column)

pub returns-in-None-clause-newlines : goal.returns-in-None-clause-newlines
returns-in-None-clause-newlines c = sym (no_newline c.args.bytes.now (λ i within. c.in-None.ensures i (omega arith) within))

pub returns-in-None-clause-column : goal.returns-in-None-clause-column
returns-in-None-clause-column c =
    let none = no_newline c.args.bytes.now (λ i within. c.in-None.ensures i (omega arith) within) in
    ap (λ n. c.args.column + n) c.count_characters-in-None.ensures ∙ sym (column_along c.args.column c.args.bytes.now none)
