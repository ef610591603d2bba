use Rattle.std.proofs.Common.{inr, refl, sym}
use Rattle.template_builtins_fields.proofs.Widths.{ends, past, stops}
use Rattle.template_builtins_fields.proofs.layouts.width_in.Goals as goal

pub returns-in_default-digit_of : goal.returns-in_default-digit_of
returns-in_default-digit_of c =
    stops c.args.characters.now c.digits.width c.first-item.result c.digits.rest.now c.in-len1-up.len_at_least c.first-item.is
    (sym c.in_default-digit_of.ensures.is) c.digits.invariant.0 c.digits.invariant.1

pub returns-then-width-gt-GREATEST_WIDTH : goal.returns-then-width-gt-GREATEST_WIDTH
returns-then-width-gt-GREATEST_WIDTH c =
    rw (
      c.refusal.ensures,
      past c.args.characters.now c.digits.width c.first-item.result c.in-Some.digit c.digits.rest.now c.in-len1-up.len_at_least c.first-item.is
          (sym c.in-Some.ensures.is) c.if-width-gt-GREATEST_WIDTH.true c.digits.invariant.1,
    )
    (inr refl)

pub returns : goal.returns
returns c = ends c.args.characters.now c.digits.width c.digits.rest.now c.in_default.len_below c.digits.invariant.0 c.digits.invariant.1
