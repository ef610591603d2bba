use Rattle.std.proofs.Common.{◌+◌, ◌-◌, length, arith}
use Rattle.template_builtins_texts.proofs.Places.{rest_utf8}
use Rattle.template_builtins_methods.proofs.Finding.{parts_last, parts_next, rest_shorter}
use Rattle.template_builtins_methods.proofs.places.times_apart.Goals as goal

pub overflow_add-count : goal.overflow_add-count
overflow_add-count c =
    omega (arith, c.loop-after.invariant.1, rest_shorter c.args.part.now c.loop-after.rest.now _ _ c.requires c.in-Some.ensures.cases)

pub loop-after-preserved : goal.loop-after-preserved
loop-after-preserved c =
    let part = c.args.part.now in
    let rest = c.loop-after.rest.now in
    let held = c.loop-after.invariant in
    let shorter = rest_shorter part rest _ _ c.requires c.in-Some.ensures.cases in
    let one = parts_next part rest _ _ (length c.args.text.now - c.loop-after.count) (length c.args.text.now - (c.loop-after.count + 1)) c.requires (omega (arith, held.1, shorter)) c.in-Some.ensures.cases in (
      rest_utf8 part rest _ _ held.0 c.in-Some.ensures.cases,
      omega (arith, held.1, shorter),
      omega (arith, one, held.2),
    )

pub returns : goal.returns
returns c =
    let last = parts_last c.args.part.now c.loop-after.rest.now (length c.args.text.now - c.loop-after.count) c.in_default.ensures.cases in
    omega (arith, last, c.loop-after.invariant.2)
