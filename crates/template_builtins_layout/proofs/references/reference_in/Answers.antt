use Rattle.std.proofs.Common.{sym}
use Rattle.template_builtins_layout.proofs.Ampersands.{unknown_name}
use Rattle.template_builtins_layout.proofs.references.reference_in.Goals as goal

pub returns-in_err-character : goal.returns-in_err-character
returns-in_err-character c =
    rw c.from_residual-in_err-character.ensures
    (unknown_name c.args.part.now c.in_ok-name.name c.in_ok-name.after c.in_ok-name.ensures.cases (sym (rw c.in_err-character.was at c.character_named.ensures)))
