use Rattle.std.proofs.Common.{sym, ◌∙◌, ap, arith, ◌∷◌}
use Rattle.template_compiler_syntax.specs.declared.edges.Edge.TheVariants.{Beside}
use Rattle.template_compiler_tokens.specs.View.{token_of}
use Rattle.template_compiler_placed_tokens.specs.Left.{placed, data_tokens}
use Rattle.template_compiler_placed_tokens.proofs.Scanned.{scanned, not_scanned, scanned_cut, open_le}
use Rattle.template_compiler_placed_tokens.proofs.inside.next_inside.Goals as goal

pub returns-in-End : goal.returns-in-End
returns-in-End c =
    let x = c.args.syntax.now in
    let s = c.args.source.now in
    let place = c.in-End.place in
    let next = c.in-End.next in
    let end = c.in-End.ensures.2 in
    let low = end.low in
    let high = end.high in
    record {
      ahead = omega arith;
      read = record {
        first = end.tokens ∙ ap (λ t. placed t place next ∷ data_tokens x s (Beside c.args.kind c.in-End.last) next) (sym c.end_token.ensures);
        stage = c.in-End.ensures.1;
        cut = record {
          low = low;
          ordered = high;
          high = omega arith;
          begin = end.cut;
          end = c.in-End.ensures.1;
          next = c.in-End.ensures.1;
        };
      };
    }

pub returns-in-Ok : goal.returns-in-Ok
returns-in-Ok c =
    let s = c.args.source.now in
    let place = c.in-Token.ensures in
    let low = place.0 in
    let brackets = c.brackets_behind-depth.ensures in
    let most = open_le (token_of c.in-Ok.token) c.args.depth in
    let some = c.in-Ok.ensures.some in
    let start = c.requires.depth in
    let cut = scanned_cut s c.split_at.result.1.now c.in-Token.place c.in-Ok.width c.split_at.ensures.back place.1.0 c.in-Ok.ensures.cut in
    record {
      ahead = omega arith;
      read = record {
        first =
            scanned c.args.syntax.now s c.split_at.result.1.now c.args.kind c.args.depth c.in-Token.place c.args.from c.brackets_behind-depth.result c.in-Ok.width
            c.in-Ok.token c.split_at.ensures.back place.2 place.4 c.in-Ok.ensures.token brackets;
        stage = (cut, omega arith);
        cut = record { low = low; ordered = omega arith; high = omega arith; begin = place.1; end = cut; next = cut };
      };
    }

pub returns-in-Err-clause-read : goal.returns-in-Err-clause-read
returns-in-Err-clause-read c =
    let place = c.in-Token.ensures in
    not_scanned c.args.syntax.now c.args.source.now c.split_at.result.1.now c.args.kind c.args.depth c.in-Token.place c.args.from c.in-Err.kind
    c.split_at.ensures.back place.2 place.4 c.in-Err.ensures.token
