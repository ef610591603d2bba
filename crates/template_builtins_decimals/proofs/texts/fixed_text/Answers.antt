use Rattle.std.proofs.Common.{arith, ℕ, ◌-◌, List, length, ap, ◌∙◌}
use Rattle.std.specs.Str.Parse.{digits_value}
use Rattle.template_builtins_decimals.specs.Fixed.{at_least_one, number_text, without_zeros}
use Rattle.template_builtins_decimals.proofs.Digits.{digits_drop, digits_take}
use Rattle.template_builtins_decimals.proofs.Showing.{decimal_parts}
use Rattle.template_builtins_decimals.proofs.texts.fixed_text.Goals as goal

pub number_text-requires-clause-digits : goal.number_text-requires-clause-digits
number_text-requires-clause-digits c =
    rw c.split_at.ensures.front (digits_take (length c.args.digits.now - c.args.places) c.args.digits.now c.requires.digits)

pub without_zeros-requires : goal.without_zeros-requires
without_zeros-requires c =
    rw c.split_at.ensures.back (digits_drop (length c.args.digits.now - c.args.places) c.args.digits.now c.requires.digits)

pub returns : goal.returns
unfolding lib.Utf8.encode
returns c =
    decimal_parts c.args.negative c.args.digits.now c.args.places (length c.args.digits.now - c.args.places) _ _ _ _ _
    c.number_text.result.now c.at_least_one.result.now c.requires.digits (omega arith)
    c.new-text.ensures.bytes c.in_ok-push_sign.ensures c.in_ok-push_digits.ensures
    (c.number_text.ensures.text ∙ ap (λ (s : List ℕ). number_text (digits_value 10 s)) c.split_at.ensures.front)
    c.in_ok-push.ensures.bytes c.in_ok-push_digits-2.ensures
    (c.at_least_one.ensures.text ∙ ap at_least_one (c.without_zeros.ensures.text ∙ ap without_zeros c.split_at.ensures.back))
