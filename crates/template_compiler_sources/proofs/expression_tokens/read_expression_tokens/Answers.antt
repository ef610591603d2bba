use Rattle.std.proofs.Common.{rules, ◌≡◌, ◌<◌, ◌≤◌, [], ◌++◌, length, sym, ap, subst, arith}
use Rattle.template_compiler_tokens.proofs.Spans.{span_is}
use Rattle.template_compiler_stream.specs.Refusals.{fault_of}
use Rattle.template_compiler_sources.proofs.Spelling.{GoesOn, token_front, end_front, bad_front}
use Rattle.template_compiler_sources.proofs.expression_tokens.read_expression_tokens.Goals as goal

pub loop-rest-init : goal.loop-rest-init
loop-rest-init c =
    let text = c.args.text.now in
    (c.utf8.text, ([], c.start-place.ensures, subst (λ l. GoesOn text l [] text) (sym c.new-tokens.ensures.items) (λ ts spans h. h)))

pub returns-then-is_empty-clause-tokens : goal.returns-then-is_empty-clause-tokens
returns-then-is_empty-clause-tokens c =
    let there = c.loop-rest.invariant.1 in
    let none : length c.trim_ascii_start-behind_blanks.result.now ≡ 0 = search rules in
    end_front c.args.text.now there.0 c.loop-rest.rest.now c.trim_ascii_start-behind_blanks.result.now c.loop-rest.tokens.items c.new.result there.2
    c.trim_ascii_start-behind_blanks.ensures.value none c.new.ensures.tokens c.new.ensures.spans

pub loop-rest-preserved : goal.loop-rest-preserved
loop-rest-preserved c =
    let there = c.loop-rest.invariant.1 in
    let rest = c.loop-rest.rest.now in
    let black = c.trim_ascii_start-behind_blanks.result.now in
    let trimmed = c.trim_ascii_start-behind_blanks.ensures.value in
    let within : trimmed.0 ≤ length rest = omega (arith, trimmed.2) in
    let blanks = c.blanks_before.ensures trimmed.0 within trimmed.1 in
    let some : 0 < length black = search rules in
    let from = there.0 ++ c.blanks_before.result.now in
    let upto = from ++ c.split_at.result.0.now in
    let starts = c.after-start.ensures there.0 there.1 in
    let ends = c.after-end.ensures from starts in
    let place = span_is from upto c.to.result (c.to.ensures from upto starts ends) in (
      search rules,
      (
        upto,
        ends,
        token_front c.args.text.now there.0 rest black c.split_at.result.1.now c.loop-rest.tokens.items c.push.new.self.items c.in-Ok.token c.to.result
            c.in-Ok.width c.in_ok-push-in-Ok.ensures.items there.2 trimmed some c.in-Ok.ensures.token c.split_at.ensures.back from upto
            (ap (λ l. there.0 ++ l) blanks) (ap (λ l. from ++ l) c.split_at.ensures.front) place,
      ),
    )

pub returns-in-Some-clause-tokens : goal.returns-in-Some-clause-tokens
returns-in-Some-clause-tokens c =
    let there = c.loop-rest.invariant.1 in
    let some : 0 < length c.trim_ascii_start-behind_blanks.result.now = search rules in
    bad_front c.args.text.now there.0 c.loop-rest.rest.now c.trim_ascii_start-behind_blanks.result.now c.loop-rest.tokens.items c.new-in-Some.result
    c.in-Err.kind (fault_of c.in-Some.fault) there.2 c.trim_ascii_start-behind_blanks.ensures.value some c.in-Err.ensures.token c.in-Some.ensures
    c.new-in-Some.ensures.tokens c.new-in-Some.ensures.spans
