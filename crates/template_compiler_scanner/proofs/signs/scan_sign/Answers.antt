use Rattle.std.proofs.Common.{refl, sym}
use Rattle.template_compiler_tokens.specs.Lexical.{no_sign}
use Rattle.template_compiler_tokens.specs.View.{token_of}
use Rattle.template_compiler_tokens.specs.Signs.{symbol_of}
use Rattle.template_compiler_scanner.proofs.Tokens.{long_found, short_found}
use Rattle.template_compiler_scanner.proofs.signs.scan_sign.Goals as goal

pub returns-in-Some : goal.returns-in-Some
returns-in-Some c =
    long_found c.args.text.now (token_of c.token.result) (symbol_of c.in-Some.sign) c.token.ensures
    (rw (c.byte_at-first.ensures.byte, c.byte_at.ensures.byte) at c.in-Some.ensures)

pub returns-in-Some-short_sign : goal.returns-in-Some-short_sign
returns-in-Some-short_sign c =
    short_found c.args.text.now (token_of c.token-in-Some-short_sign.result) (symbol_of c.in-Some-short_sign.sign)
    c.token-in-Some-short_sign.ensures
    (sym (rw (c.byte_at-first.ensures.byte, c.byte_at.ensures.byte) at c.in-None.ensures))
    (rw c.byte_at-first.ensures.byte at c.in-Some-short_sign.ensures)

pub returns-in-None-short_sign : goal.returns-in-None-short_sign
returns-in-None-short_sign c = (
  refl,
  no_sign
      (sym (rw (c.byte_at-first.ensures.byte, c.byte_at.ensures.byte) at c.in-None.ensures))
      (sym (rw c.byte_at-first.ensures.byte at c.in-None-short_sign.ensures)),
)
