use Rattle.std.proofs.Common.{arith}
use Rattle.template_compiler_syntax.specs.Stripping.{stripped_from}
use Rattle.template_compiler_syntax.proofs.Data.{begun_text, begin_at}
use Rattle.template_compiler_syntax.proofs.stripping.data_start.Goals as goal

pub returns : goal.returns
returns c =
    let x = c.args.syntax.now in
    let s = c.args.source.now in
    let r = c.without_start-text.result.now in
    let begin = stripped_from x s c.args.left c.args.from c.args.to in
    let high = c.requires.end.0 in
    let has =
    begun_text x s c.range.result.now r c.args.left c.args.from c.args.to c.requires.ordered high c.range.ensures.value
    c.without_start-text.ensures.text c.without_start-text.ensures.bound c.without_start-text.ensures.tail in
    let at = begin_at s r c.args.from begin c.args.to has high in
    let low = has.low in
    record {
      start = omega (arith, at);
      ahead = omega (arith, at, low);
      within = omega arith;
    }
