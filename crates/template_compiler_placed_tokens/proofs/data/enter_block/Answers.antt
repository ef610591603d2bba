use Rattle.std.proofs.Common.{Some, subst, ◌∷◌, sym, ◌∙◌, ap, arith}
use Rattle.template_compiler_syntax.specs.declared.StartMarker.TheVariants.{Block}
use Rattle.std.specs.Prelude.{codes}
use Rattle.template_compiler_syntax.specs.Segments.{HasInside, only}
use Rattle.template_compiler_tokens.specs.Token.{block_start}
use Rattle.template_compiler_placed_tokens.specs.Left.{placed, inside_tokens}
use Rattle.template_compiler_placed_tokens.proofs.OneWord.{raw_is_name}
use Rattle.template_compiler_placed_tokens.proofs.Steps.{at_block}
use Rattle.template_compiler_placed_tokens.proofs.data.enter_block.Goals as goal

pub only_word-requires-clause-name : goal.only_word-requires-clause-name
only_word-requires-clause-name c = raw_is_name

pub returns-in-None : goal.returns-in-None
returns-in-None c =
    let x = c.args.syntax.now in
    let s = c.args.source.now in
    let start = c.args.start in
    let inside = c.inside_from-inside.ensures in
    record {
      first =
          at_block x s c.requires.usable c.requires.start
          (λ last next h. c.in-None.ensures.found last next (subst (λ n. HasInside x s Block 0 n (only (codes "raw")) (Some (last, next))) (sym inside.place) h)) ∙
          ap (λ n. placed block_start start n ∷ inside_tokens x s Block 0 n) (sym inside.place);
      stage = (inside.cut, omega arith);
      cut = record {
        low = omega arith;
        ordered = inside.ahead;
        high = omega arith;
        begin = inside.start;
        end = inside.cut;
        next = inside.cut;
      };
    }
