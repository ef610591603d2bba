use Rattle.std.proofs.Common.{◌-◌, length, drop, ap, ◌∙◌}
use Rattle.std.proofs.lemmas.List.{take_rest}
use Rattle.template_builtins_decimals.specs.Fixed as fixed
use Rattle.template_builtins_decimals.proofs.Digits.{digits_drop, digits_take}
use Rattle.template_builtins_decimals.proofs.Showing.{front_first, front_last}
use Rattle.template_builtins_decimals.proofs.texts.number_text.Goals as goal

pub returns-then-digits-start-ne48-clause-text : goal.returns-then-digits-start-ne48-clause-text
returns-then-digits-start-ne48-clause-text c =
    take_rest c.args.digits.now c.front.start
    ∙ front_first c.args.digits.now c.front.start c.requires.digits c.front.invariant.within c.if-digits-start-ne48.true
    ∙ ap fixed.number_text c.front.invariant.value

pub returns-then-digits-start-ne48-clause-digits : goal.returns-then-digits-start-ne48-clause-digits
returns-then-digits-start-ne48-clause-digits c =
    digits_take (length c.args.digits.now - c.front.start) (drop c.front.start c.args.digits.now) (digits_drop c.front.start c.args.digits.now c.requires.digits)

pub returns-clause-text : goal.returns-clause-text
returns-clause-text c =
    take_rest c.args.digits.now c.front.start
    ∙ front_last c.args.digits.now c.front.start c.requires.digits c.front.invariant.within c.front-test.false
    ∙ ap fixed.number_text c.front.invariant.value

pub returns-clause-digits : goal.returns-clause-digits
returns-clause-digits c =
    digits_take (length c.args.digits.now - c.front.start) (drop c.front.start c.args.digits.now) (digits_drop c.front.start c.args.digits.now c.requires.digits)
