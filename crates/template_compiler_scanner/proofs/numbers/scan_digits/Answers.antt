use Rattle.std.proofs.Common.{sym, ◌∙◌, refl}
use Rattle.template_compiler_tokens.specs.Token.{bad_syntax, float_literal}
use Rattle.template_compiler_scanner.proofs.Digits.{IsNumberAt, scanned_float, scanned_number, scanned_large, scanned_width}
use Rattle.template_compiler_scanner.proofs.numbers.scan_digits.Goals as goal
use Rattle.template_compiler_scanner.proofs.numbers.scan_digits.Goals.{After-is_float}

parts : (c : After-is_float) →
    IsNumberAt c.args.text.now c.split_at.result.1.now c.split_at-2.result.1.now c.split_at-2.result.0.now c.base_of-base.result
    c.prefix_width-prefix.result c.digits_len.result c.is_float.result
parts c = record {
  base_is = c.base_of-base.ensures.base;
  prefix_is = c.prefix_width-prefix.ensures.width;
  rest_is = c.split_at.ensures.back;
  len_is = c.digits_len.ensures.len;
  behind_is = c.split_at-2.ensures.back;
  digits_is = c.split_at-2.ensures.front;
  float_is = c.is_float.ensures;
}

pub returns-then-is_float : goal.returns-then-is_float
returns-then-is_float c =
    let h = parts (goal.at.returns-then-is_float c).After-is_float in
    (float_literal, refl, scanned_float _ _ _ _ _ _ _ _ h c.if-is_float.true)

pub returns-in-None : goal.returns-in-None
returns-in-None c =
    let h = parts (goal.at.returns-in-None c).After-is_float in
    (bad_syntax, refl, scanned_large _ _ _ _ _ _ _ _ h c.if-is_float.false c.in-None.ensures)

pub returns-in-Some : goal.returns-in-Some
returns-in-Some c =
    let h = parts (goal.at.returns-in-Some c).After-is_float in (
      c.number.ensures ∙ sym (scanned_number _ _ _ _ _ _ _ _ h c.in-Some.value c.if-is_float.false c.in-Some.ensures.1 (rw c.in-Some.ensures.1 c.in-Some.ensures.0)),
      scanned_width _ _ _ _ _ _ _ _ h c.digits_len.ensures.within,
    )
