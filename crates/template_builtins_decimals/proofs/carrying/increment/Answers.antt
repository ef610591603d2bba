use Rattle.std.proofs.Common.{arith, ◌+◌, ◌<◌, get_or, refl, lit<}
use Rattle.std.proofs.lemmas.List.{length-set}
use Rattle.std.proofs.lemmas.Str.Parse.{digit_at}
use Rattle.template_builtins_decimals.proofs.Carries.{not_first, first_stays, carry_goes, carry_ends, digit_more_below}
use Rattle.template_builtins_decimals.proofs.Digits.{digit_of, digits_set}
use Rattle.template_builtins_decimals.proofs.carrying.increment.Goals as goal

pub carried-preserved : goal.carried-preserved
carried-preserved c =
    let some : 0 < c.carried.place = not_first c.carried.digits c.carried.place c.carried.invariant.zero c.carried-test.true in
    record {
      within = omega (arith, some, length-set c.carried.digits c.carried.place 48);
      digits = digits_set c.carried.digits c.carried.place 48 c.carried.invariant.digits (lit< tt);
      zero = first_stays c.carried.digits c.carried.place 48 some c.carried.invariant.zero;
      value = carry_goes c.carried.digits c.carried.place _ some c.carried.invariant.within c.carried-test.true c.carried.invariant.value;
    }

pub overflow_add-digits : goal.overflow_add-digits
overflow_add-digits c =
    let digit = digit_at c.carried.digits c.carried.place c.carried.invariant.digits c.carried.invariant.within in
    omega (arith, digit.1)

pub returns-clause-value : goal.returns-clause-value
returns-clause-value c =
    carry_ends c.carried.digits c.carried.place (get_or c.carried.digits c.carried.place 0) _ c.carried.invariant.within refl
    (digit_of c.carried.digits c.carried.place c.carried.invariant.digits c.carried.invariant.within) c.carried-test.false c.carried.invariant.value

pub returns-clause-digits : goal.returns-clause-digits
returns-clause-digits c =
    digits_set c.carried.digits c.carried.place (get_or c.carried.digits c.carried.place 0 + 1) c.carried.invariant.digits
    (digit_more_below (get_or c.carried.digits c.carried.place 0) (digit_of c.carried.digits c.carried.place c.carried.invariant.digits c.carried.invariant.within) c.carried-test.false)
