use Rattle.std.proofs.lemmas.Bool.{false≢true}
use Rattle.template_compiler_scanner.proofs.Characters.{escape_scalar}
use Rattle.template_compiler_scanner.proofs.escapes.read_escape.Goals as goal

pub returns-in-None-from_u32 : goal.returns-in-None-from_u32
returns-in-None-from_u32 c = absurd (false≢true (c.in-None-from_u32.ensures.succeeds (rw c.in-Some.code-is (escape_scalar c.in-Some.ensures))))
