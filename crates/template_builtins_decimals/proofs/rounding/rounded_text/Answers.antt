use Rattle.std.proofs.Common.{arith, ◌≡◌, ℕ, ℤ, ◌+◌, List, length, replicate, get_or, IfOk, string_bytes, ap, subst, ◌∙◌, length-append}
use Rattle.std.proofs.lemmas.Int.{to_z-of_z}
use Rattle.std.specs.Int.{cast_signed, cast_unsigned, w128}
use Rattle.std.specs.Str.Parse.{digits_value}
use Rattle.template_builtins_decimals.specs.Fixed.{figure, fixed_text}
use Rattle.template_builtins_decimals.specs.Rounding.{digits_cut, zeros_put}
use Rattle.template_builtins_decimals.specs.Seen.{seen}
use Rattle.template_builtins_decimals.proofs.Digits.{digits_append, digits_zeros}
use Rattle.template_builtins_decimals.proofs.Rounded.{all_are_digits, all_are_many, all_begin_with_zero, text_is}
use Rattle.template_builtins_decimals.proofs.rounding.rounded_text.Goals as goal

pub round-requires-clause-digits : goal.round-requires-clause-digits
round-requires-clause-digits c =
    rw c.in_ok-digits.ensures (all_are_digits (c.places-behind.result + c.zeros_put-zeros.result + 1) (seen c.args.decimal) c.requires.digits.0 c.requires.digits.1)

pub round-requires-clause-zero : goal.round-requires-clause-zero
round-requires-clause-zero c =
    ap (λ (s : List ℕ). get_or s 0 0) c.in_ok-digits.ensures ∙ all_begin_with_zero (c.places-behind.result + c.zeros_put-zeros.result) (seen c.args.decimal)

pub round-requires-clause-cut : goal.round-requires-clause-cut
round-requires-clause-cut c =
    let many = all_are_many (c.places-behind.result + c.zeros_put-zeros.result + 1) (seen c.args.decimal) in
    omega (arith, many, ap length c.in_ok-digits.ensures, c.digits_cut-cut.ensures.most, c.zeros_put-zeros.ensures.put)

pub fixed_text-requires-clause-digits : goal.fixed_text-requires-clause-digits
fixed_text-requires-clause-digits c =
    rw (c.as_slice.ensures.value, c.in_ok-push_zeros.ensures) (digits_append c.round.new.digits.items (replicate c.zeros_put-zeros.result 48) c.round.ensures.digits (digits_zeros c.zeros_put-zeros.result))

pub fixed_text-requires-clause-places : goal.fixed_text-requires-clause-places
fixed_text-requires-clause-places c =
    let many = all_are_many (c.places-behind.result + c.zeros_put-zeros.result + 1) (seen c.args.decimal) in
    let last = ap length (c.as_slice.ensures.value ∙ c.in_ok-push_zeros.ensures) in
    omega (
      arith,
      many,
      last,
      ap length c.in_ok-digits.ensures,
      length-append c.round.new.digits.items (replicate c.zeros_put-zeros.result 48),
      c.round.ensures.length,
      c.places_left-left.ensures,
      c.digits_cut-cut.ensures.most,
      c.zeros_put-zeros.ensures.put,
    )

pub returns : goal.returns
returns c =
    let P : List ℕ → Type 0 = λ t. IfOk c.fixed_text.result (λ s. string_bytes s ≡ t) in
    let whole : cast_signed w128 (cast_unsigned w128 c.args.precision) ≡ c.args.precision = to_z-of_z w128 c.args.precision c.ranges.precision in
    let cut-is = c.digits_cut-cut.ensures.cut ∙ ap (λ (z : ℤ). digits_cut z c.places-behind.result) whole in
    let zeros-is = c.zeros_put-zeros.ensures.put ∙ ap zeros_put whole in
    let same =
    ap (λ (s : List ℕ). fixed_text (figure c.args.decimal.negative (digits_value 10 s) c.places_left-left.result)) c.as_slice.ensures.value
    ∙ ap (λ (m : ℕ). fixed_text (figure c.args.decimal.negative (digits_value 10 c.push_zeros.new.digits.items) m)) c.places_left-left.ensures
    ∙ text_is c.args.method c.args.precision (seen c.args.decimal) (c.places-behind.result + c.zeros_put-zeros.result + 1)
    c.in_ok-digits.digits.items c.round.new.digits.items c.push_zeros.new.digits.items
    c.places-behind.result c.digits_cut-cut.result c.zeros_put-zeros.result
    c.in_ok-digits.ensures c.round.ensures.value c.in_ok-push_zeros.ensures
    c.places-behind.ensures.places cut-is zeros-is in
    subst P same c.fixed_text.ensures
