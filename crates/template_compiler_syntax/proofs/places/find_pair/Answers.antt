use Rattle.std.proofs.Common.{◌+◌, slice_index, sym, ◌∙◌, arith}
use Rattle.std.proofs.lemmas.Bool.{false≢true}
use Rattle.template_compiler_syntax.proofs.Searches.{byte_found}
use Rattle.template_compiler_syntax.proofs.Pairs.{pair_found, pair_past, pair_nowhere}
use Rattle.template_compiler_syntax.proofs.places.find_pair.Goals as goal

pub returns-then-stands_at : goal.returns-then-stands_at
returns-then-stands_at c =
    let low = c.loop-skipped.invariant.low in
    record {
      ahead = omega arith;
      here = c.stands_at.ensures.0 c.if-stands_at.true;
      before =
          pair_found c.args.bytes.now c.args.text.now c.requires.some c.rest_from.result.now c.args.from
          c.loop-skipped.at c.in-Some.skipped c.rest_from.ensures c.in-Some.ensures c.loop-skipped.invariant.none;
    }

pub loop-skipped-preserved : goal.loop-skipped-preserved
loop-skipped-preserved c =
    let low = c.loop-skipped.invariant.low in
    let within = (byte_found c.args.bytes.now c.rest_from.result.now c.loop-skipped.at (slice_index c.args.text.now 0) c.in-Some.skipped c.rest_from.ensures
    c.in-Some.ensures).0 in
    record {
      low = omega arith;
      within = omega arith;
      none =
          pair_past c.args.bytes.now c.args.text.now c.requires.some c.args.from
          (c.loop-skipped.at + c.in-Some.skipped)
          (pair_found c.args.bytes.now c.args.text.now c.requires.some c.rest_from.result.now c.args.from
          c.loop-skipped.at c.in-Some.skipped c.rest_from.ensures c.in-Some.ensures c.loop-skipped.invariant.none)
          (λ stands. false≢true (sym c.if-stands_at.false ∙ c.stands_at.ensures.1 stands));
    }

pub returns : goal.returns
returns c =
    pair_nowhere c.args.bytes.now c.args.text.now c.requires.some c.rest_from.result.now c.args.from
    c.loop-skipped.at c.rest_from.ensures c.in_default.ensures c.loop-skipped.invariant.none
