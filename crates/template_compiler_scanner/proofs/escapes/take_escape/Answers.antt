use Rattle.std.proofs.Common.{arith}
use Rattle.template_compiler_scanner.proofs.Cuts.{cut_past_ascii, cut_behind_escape}
use Rattle.template_compiler_scanner.proofs.escapes.take_escape.Goals as goal

pub split_at-requires-2 : goal.split_at-requires-2
split_at-requires-2 c =
    cut_past_ascii c.args.text.now c.split_at.result.1.now c.args.backslash c.utf8.text c.requires.within (omega (arith, c.requires.stands))
    c.split_at.ensures.back

pub split_at-requires-in-Some : goal.split_at-requires-in-Some
split_at-requires-in-Some c =
    rw c.as_bytes.ensures.value at
    (cut_behind_escape c.as_bytes.result.now c.in-Some.character c.in-Some.width c.as_bytes.ensures.utf8
    (rw (c.in-Some.character-is, c.in-Some.width-is) c.in-Some.ensures))
