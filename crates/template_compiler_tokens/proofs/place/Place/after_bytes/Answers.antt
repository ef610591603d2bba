use Rattle.std.proofs.Common.{min, fold, arith, sym, ◌∙◌, ap, length-append}
use Rattle.std.proofs.lemmas.List.Sums.{fold-append}
use Rattle.template_compiler_tokens.specs.Bytes.{next_column}
use Rattle.template_compiler_tokens.specs.SourcePlaces.{column_behind}
use Rattle.template_compiler_tokens.proofs.Columns.{capped, lines_append}
use Rattle.template_compiler_tokens.proofs.place.Place.after_bytes.Goals as goal

pub returns : goal.returns
unfolding column_behind
returns c = λ before h.
    let t = c.args.bytes.now in
    let lines = lines_append before t in
    let newlines = c.count-newlines.ensures.newlines in
    let column = rw h.column at c.count-newlines.ensures.column in
    let len = length-append before t in
    record {
      line = omega (arith, c.saturating_add.ensures, c.saturate.ensures, h.line);
      column =
          c.saturate-2.ensures ∙ ap (λ n. min n 65535) column ∙ capped (fold next_column 0 before) t ∙
          ap (λ n. min n 65535) (sym (fold-append next_column 0 before t));
      offset = omega (arith, c.saturate_offset.ensures, h.offset);
    }
