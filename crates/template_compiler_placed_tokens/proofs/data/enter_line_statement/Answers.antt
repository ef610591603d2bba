use Rattle.std.proofs.Common.{◌∷◌, sym, ◌∙◌, ap, arith}
use Rattle.template_compiler_syntax.specs.declared.StartMarker.TheVariants.{LineStatement}
use Rattle.template_compiler_tokens.specs.Token.{block_start}
use Rattle.template_compiler_placed_tokens.specs.Left.{placed, inside_tokens}
use Rattle.template_compiler_placed_tokens.proofs.Steps.{at_line_statement}
use Rattle.template_compiler_placed_tokens.proofs.data.enter_line_statement.Goals as goal

pub returns : goal.returns
returns c =
    let x = c.args.syntax.now in
    let s = c.args.source.now in
    let start = c.args.start in
    let inside = c.inside_from-inside.ensures in
    record {
      first =
          at_line_statement x s c.requires.usable c.requires.start ∙
          ap (λ n. placed block_start start n ∷ inside_tokens x s LineStatement 0 n) (sym inside.place);
      stage = (inside.cut, omega arith);
      cut = record {
        low = omega arith;
        ordered = inside.ahead;
        high = omega arith;
        begin = inside.start;
        end = inside.cut;
        next = inside.cut;
      };
    }
