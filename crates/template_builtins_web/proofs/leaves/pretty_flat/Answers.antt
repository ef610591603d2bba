use Rattle.template_builtins_web.proofs.LaidOut.{flat_pretty}
use Rattle.template_builtins_web.proofs.leaves.pretty_flat.Goals as goal

pub returns-in_default : goal.returns-in_default
returns-in_default c =
    rw (c.content.ensures, ← flat_pretty c.args.indent.now c.args.level c.content.result c.in_default.not-Bytes)
    (rw c.content.ensures at c.pretty_leaf.ensures)
