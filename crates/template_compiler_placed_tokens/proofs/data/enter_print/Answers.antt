use Rattle.std.proofs.Common.{◌∷◌, sym, ◌∙◌, ap, arith}
use Rattle.template_compiler_syntax.specs.declared.StartMarker.TheVariants.{Variable}
use Rattle.template_compiler_tokens.specs.Token.{variable_start}
use Rattle.template_compiler_placed_tokens.specs.Left.{placed, inside_tokens}
use Rattle.template_compiler_placed_tokens.proofs.Steps.{at_print}
use Rattle.template_compiler_placed_tokens.proofs.data.enter_print.Goals as goal

pub returns : goal.returns
returns c =
    let x = c.args.syntax.now in
    let s = c.args.source.now in
    let start = c.args.start in
    let inside = c.inside_from-inside.ensures in
    record {
      first =
          at_print x s c.requires.usable c.requires.start ∙
          ap (λ n. placed variable_start start n ∷ inside_tokens x s Variable 0 n) (sym inside.place);
      stage = (inside.cut, omega arith);
      cut = record {
        low = omega arith;
        ordered = inside.ahead;
        high = omega arith;
        begin = inside.start;
        end = inside.cut;
        next = inside.cut;
      };
    }
