use Rattle.std.proofs.Common.{fold, ◌∙◌, arith, length-append}
use Rattle.std.proofs.lemmas.List.Sums.{fold-append}
use Rattle.template_compiler_tokens.specs.Bytes.{next_column}
use Rattle.template_compiler_tokens.specs.SourcePlaces.{column_behind}
use Rattle.template_compiler_tokens.proofs.Columns.{lines_append}
use Rattle.template_compiler_tokens.proofs.place.Place.beside.Goals as goal

pub returns : goal.returns
unfolding column_behind
returns c = λ before plain h.
    let t = c.args.bytes.now in
    let lines = lines_append before t in
    let none = plain.lines in
    let column = fold-append next_column 0 before t ∙ plain.columns (fold next_column 0 before) in
    let len = length-append before t in
    record {
      line = omega (arith, lines, none, h.line);
      column = omega (arith, c.saturate.ensures, column, h.column);
      offset = omega (arith, c.saturate_offset.ensures, len, h.offset);
    }
