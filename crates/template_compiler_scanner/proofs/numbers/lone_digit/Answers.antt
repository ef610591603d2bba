use Rattle.std.proofs.Common.{◌≡◌, ◌-◌, ◌<◌, true, ap, sym, ◌∙◌, slice_index, arith}
use Rattle.std.specs.Char.{is_ascii_digit}
use Rattle.template_compiler_tokens.specs.Token.{number}
use Rattle.template_compiler_scanner.proofs.Lone.{IsApart, lone_number, lone_width}
use Rattle.template_compiler_scanner.proofs.numbers.lone_digit.Goals as goal

pub returns-then-not-is_name_part : goal.returns-then-not-is_name_part
returns-then-not-is_name_part c =
    let s = c.args.text.now in
    let first = c.byte_at-first.ensures.byte in
    let digit : is_ascii_digit (slice_index s 0) ≡ true = rw first at (sym c.is_ascii_digit.ensures.value ∙ c.if-is_ascii_digit.true) in
    let apart : IsApart (slice_index s 1) = record {
      name = rw c.byte_at-next.ensures.byte at (sym c.is_name_part.ensures ∙ c.if-not-is_name_part.true);
      point = λ e. c.if-next-ne46.true (c.byte_at-next.ensures.byte ∙ e);
    } in
    let small : slice_index s 0 < 256 = omega arith in
    record {
      value = lone_number s digit apart small ∙ ap number (ap (λ b. b - 48) (sym first) ∙ sym c.from.ensures);
      width = lone_width s digit apart;
      digit = digit;
      none = tt;
    }
