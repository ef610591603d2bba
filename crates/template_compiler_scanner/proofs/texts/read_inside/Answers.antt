use Rattle.std.proofs.Common.{refl}
use Rattle.template_compiler_scanner.proofs.Pieces.{plain_is_itself}
use Rattle.template_compiler_scanner.proofs.texts.read_inside.Goals as goal

pub returns-in-None : goal.returns-in-None
returns-in-None c =
    let s = c.args.inside.now in
    (s, refl, plain_is_itself s (rw c.as_bytes.ensures.value at c.in-None.ensures))
