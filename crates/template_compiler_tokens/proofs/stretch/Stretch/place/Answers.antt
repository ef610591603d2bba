use Rattle.std.proofs.Common.{◌-◌, take, drop, fold, count_by, ◌∙◌, ap, arith, length-take, length-drop}
use Rattle.std.proofs.lemmas.List.Sums.{fold-append}
use Rattle.template_compiler_tokens.specs.Bytes.{is_newline, next_column}
use Rattle.template_compiler_tokens.specs.SourcePlaces.{column_behind}
use Rattle.template_compiler_tokens.proofs.Columns.{lines_append}
use Rattle.template_compiler_tokens.proofs.Stretches.{parted, plain_before}
use Rattle.template_compiler_tokens.proofs.stretch.Stretch.place.Goals as goal

pub returns : goal.returns
unfolding column_behind
returns c = λ s stretch.
    let begin = c.args.self.begin in
    let at = c.args.at in
    let before = take begin s in
    let t = take (at - begin) (drop begin s) in
    let start = c.requires.begin in
    let end = c.requires.end in
    let plain = plain_before (drop begin s) (at - begin) (c.args.self.end - begin) (omega arith) stretch.plain in
    let h = stretch.first in
    let within = stretch.within in
    let lines = lines_append before t in
    let none = plain.lines in
    let column = fold-append next_column 0 before t ∙ plain.columns (fold next_column 0 before) in
    let narrow = c.requires.narrow in
    let rest = length-take (at - begin) (drop begin s) in
    let left = length-drop begin s in
    let same = parted s begin at start in
    let line_same = ap (λ u. count_by is_newline u) same in
    let column_same = ap (λ u. fold next_column 0 u) same in
    let len = length-take at s in
    let first = length-take begin s in
    record {
      line = omega (arith, line_same, lines, none, h.line);
      column = omega (arith, column_same, rest, left, column, narrow.columns, within, h.column);
      offset = omega (arith, len, within, narrow.offsets, first, h.offset);
    }
