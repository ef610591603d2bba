use Rattle.std.proofs.Common.{sym, ◌∙◌}
use Rattle.template_compiler_tokens.specs.Texts.{byte, named}
use Rattle.template_compiler_scanner.proofs.Characters.{no_byte_escape}
use Rattle.template_compiler_scanner.proofs.escapes.escape_code.Goals as goal

pub returns-in-Some : goal.returns-in-Some
returns-in-Some c = byte (sym c.byte_at.ensures.byte ∙ c.in-120.is) c.in-Some.ensures.found

pub returns-in-None : goal.returns-in-None
returns-in-None c = no_byte_escape c.args.text.now (sym c.byte_at.ensures.byte ∙ c.in-120.is) c.in-None.ensures.none

pub returns-in-Some-named_escape : goal.returns-in-Some-named_escape
returns-in-Some-named_escape c = named cc
