use Rattle.std.proofs.Common.{◌+◌, arith}
use Rattle.template_compiler_syntax.specs.Known.{IsBraces}
use Rattle.template_compiler_syntax.specs.Places.{IsFirst}
use Rattle.template_compiler_syntax.proofs.Searches.{byte_found}
use Rattle.template_compiler_syntax.proofs.NextStart.{braces_found, braces_past, braces_next, braces_none, braces_nowhere}
use Rattle.template_compiler_syntax.proofs.starts.find_braces.Goals as goal

pub returns-in-Some-marker_at : goal.returns-in-Some-marker_at
returns-in-Some-marker_at c =
    let s = c.args.bytes.now in
    let low = c.loop-skipped.invariant.low in
    let at = c.loop-skipped.at in
    let brace = at + c.in-Some.skipped in
    let first : IsFirst (λ j. IsBraces s j) c.args.from brace = record {
      ahead = omega arith;
      here = c.in-Some-marker_at.ensures.0;
      before =
          braces_found s c.rest_from.result.now c.args.from at c.in-Some.skipped low c.rest_from.ensures c.in-Some.ensures c.loop-skipped.invariant.none;
    } in
    λ x default. braces_next x default s c.args.from brace c.in-Some-marker_at.kind first c.in-Some-marker_at.ensures.1

pub loop-skipped-preserved : goal.loop-skipped-preserved
loop-skipped-preserved c =
    let low = c.loop-skipped.invariant.low in
    let within = (byte_found c.args.bytes.now c.rest_from.result.now c.loop-skipped.at 123 c.in-Some.skipped c.rest_from.ensures c.in-Some.ensures).0 in
    record {
      low = omega arith;
      within = omega arith;
      none =
          braces_past c.args.bytes.now c.args.from (c.loop-skipped.at + c.in-Some.skipped)
          (braces_found c.args.bytes.now c.rest_from.result.now c.args.from c.loop-skipped.at c.in-Some.skipped low c.rest_from.ensures c.in-Some.ensures
          c.loop-skipped.invariant.none)
          c.in-None.ensures;
    }

pub returns : goal.returns
returns c = λ x default.
    braces_none x default c.args.bytes.now c.args.from
    (braces_nowhere c.args.bytes.now c.rest_from.result.now c.args.from c.loop-skipped.at c.rest_from.ensures c.in_default.ensures
    c.loop-skipped.invariant.none)
