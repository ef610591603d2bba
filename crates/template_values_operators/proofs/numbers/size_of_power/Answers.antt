use Rattle.std.proofs.Common.{◌≤◌, ◌*◌, ◌^◌, ◌∙◌, arith}
use Rattle.template_values_operators.proofs.Powers.{even_turn, odd_turn, last_turn, product_below, square_below}
use Rattle.template_values_operators.proofs.numbers.size_of_power.Goals as goal

pub returns-in_err-power : goal.returns-in_err-power
returns-in_err-power c =
    let past : 2 ^ 128 ≤ c.loop-left.power * c.loop-left.square = omega (arith, c.in_err-power.ensures) in
    let large = product_below _ _ _ _ _ (2 ^ 128) c.loop-left.invariant (omega arith) past in
    rw c.from_residual.ensures (λ h. omega (arith, large, h))

pub returns-in_err-square : goal.returns-in_err-square
returns-in_err-square c =
    let past : 2 ^ 128 ≤ c.loop-left.square * c.loop-left.square = omega (arith, c.in_err-square.ensures) in
    let large : 2 ^ 128 ≤ c.args.base ^ c.args.exponent = elim c.if-left-eq1.branch [
      | goal.then-left-eq1+in_ok-power w ↦ square_below _ _ _ _ _ (2 ^ 128)
          (odd_turn _ _ _ _ _ c.loop-left.invariant c.loop-left-test.true w.if-left-eq1.true) (omega arith) past
      | goal.else-left-eq1 w ↦ square_below _ _ _ _ _ (2 ^ 128)
          (even_turn _ _ _ _ _ c.loop-left.invariant c.loop-left-test.true w.if-left-eq1.false) (omega arith) past
    ] in
    rw c.from_residual-in_err-square.ensures (λ h. omega (arith, large, h))

pub loop-left-preserved : goal.loop-left-preserved
loop-left-preserved c = elim c.if-left-eq1.branch [
  | goal.then-left-eq1+in_ok-power w ↦ rw (w.power-is ∙ w.in_ok-power.ensures.1, c.in_ok-square.ensures.1)
      (odd_turn _ _ _ _ _ c.loop-left.invariant c.loop-left-test.true w.if-left-eq1.true)
  | goal.else-left-eq1 w ↦ rw (w.power-is, c.in_ok-square.ensures.1)
      (even_turn _ _ _ _ _ c.loop-left.invariant c.loop-left-test.true w.if-left-eq1.false)
]

pub returns : goal.returns
returns c = rw (← last_turn _ _ _ _ _ c.loop-left.invariant c.loop-left-test.false) c.checked_mul-2.ensures
