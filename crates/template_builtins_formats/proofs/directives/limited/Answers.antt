use Rattle.std.proofs.Common.{arith, ◌≡◌, ℕ, ◌+◌, ◌*◌, ◌<◌, drop, get_or, Ok, ap, ◌∙◌, inr}
use Rattle.std.specs.Char.{digit_value}
use Rattle.std.specs.Str.Parse.{digits_value}
use Rattle.template_builtins_arguments.specs.Answers.{single}
use Rattle.template_builtins_formats.proofs.Figures.{figure_turn, figures_end, figures_grow, past_limit, within_limit}
use Rattle.template_builtins_formats.proofs.directives.limited.Goals as goal

pub returns-then-total-gt-GREATEST_WIDTH : goal.returns-then-total-gt-GREATEST_WIDTH
returns-then-total-gt-GREATEST_WIDTH c =
    let next : ℕ = c.loop-figure.total * 10 + digit_value (get_or c.args.figures.now c.loop-figure.figure-index 0) in
    let turn = figure_turn c.loop-figure.total c.args.figures.now c.loop-figure.figure-index c.loop-figure-test.true in
    let more = figures_grow next (drop (c.loop-figure.figure-index + 1) c.args.figures.now) in
    let past : 16777216 < digits_value 10 c.args.figures.now =
    omega (arith, turn, more, c.value_of.ensures.value, c.loop-figure.invariant.value, c.if-total-gt-GREATEST_WIDTH.true) in
    rw c.refusal.ensures (inr (ap single (past_limit c.args.figures.now past)))

pub returns : goal.returns
returns c =
    let value : digits_value 10 c.args.figures.now ≡ c.loop-figure.total =
    c.loop-figure.invariant.value ∙ figures_end c.loop-figure.total c.args.figures.now c.loop-figure.figure-index c.loop-figure-test.false in
    within_limit c.args.figures.now (omega (arith, value, c.loop-figure.invariant.within)) ∙ ap Ok value
