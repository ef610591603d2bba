use Rattle.std.proofs.Common.{sym, ◌∙◌, arith, length, slice_index, ◌≡◌, ◌+◌, ◌<◌}
use Rattle.template_compiler_scanner.proofs.Closing.{none_found, loop_found, loop_within, loop_goes_on, loop_fails, loop_ends}
use Rattle.template_compiler_scanner.proofs.texts.find_close.Goals as goal

pub returns-then-byte_at-quote : goal.returns-then-byte_at-quote
returns-then-byte_at-quote c =
    loop_found c.args.quote c.args.text.now c.rest_from.result.now c.loop-skipped.from c.in-Some.skipped c.rest_from.ensures c.in-Some.ensures
    c.loop-skipped.invariant.goes_on c.loop-skipped.invariant.fails (sym c.byte_at.ensures.byte ∙ c.if-byte_at-quote.true)

pub returns-then-text-found-lt2 : goal.returns-then-text-found-lt2
returns-then-text-found-lt2 c =
    loop_ends c.args.quote c.args.text.now c.rest_from.result.now c.loop-skipped.from c.in-Some.skipped c.rest_from.ensures c.in-Some.ensures
    c.loop-skipped.invariant.goes_on c.loop-skipped.invariant.fails (λ e. c.if-byte_at-quote.false (c.byte_at.ensures.byte ∙ e))
    (omega arith)

pub loop-skipped-preserved : goal.loop-skipped-preserved
loop-skipped-preserved c =
    let s = c.args.text.now in
    let at = c.loop-skipped.from + c.in-Some.skipped in
    let other : slice_index s at ≡ c.args.quote → ⊥ = λ e. c.if-byte_at-quote.false (c.byte_at.ensures.byte ∙ e) in
    let within =
    loop_within c.args.quote s c.rest_from.result.now c.loop-skipped.from c.in-Some.skipped c.rest_from.ensures c.in-Some.ensures
    c.loop-skipped.invariant.goes_on c.loop-skipped.invariant.fails in
    let more : at + 1 < length s = omega arith in
    record {
      within = omega arith;
      goes_on =
          loop_goes_on c.args.quote s c.rest_from.result.now c.loop-skipped.from c.in-Some.skipped c.rest_from.ensures c.in-Some.ensures
          c.loop-skipped.invariant.goes_on c.loop-skipped.invariant.fails other more;
      fails =
          loop_fails c.args.quote s c.rest_from.result.now c.loop-skipped.from c.in-Some.skipped c.rest_from.ensures c.in-Some.ensures
          c.loop-skipped.invariant.goes_on c.loop-skipped.invariant.fails other more;
    }

pub returns : goal.returns
returns c =
    c.loop-skipped.invariant.fails (none_found c.args.quote _ (rw c.rest_from.ensures at c.in_default.ensures))
