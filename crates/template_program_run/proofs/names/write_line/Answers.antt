use Rattle.std.proofs.Common.{[], ◌∷◌}
use Rattle.std.proofs.lemmas.Result.{err_from_is_err_and}
use Rattle.template_machine_surroundings.proofs.Beginnings.{beginning_longer, beginning_after}
use Rattle.template_program_run.proofs.names.write_line.Goals as goal

pub returns-in_err-write_text-clause-beginning : goal.returns-in_err-write_text-clause-beginning
returns-in_err-write_text-clause-beginning g c =
    let p = err_from_is_err_and c.from_residual.result c.from_residual.ensures.1 in
    rw p.1 (beginning_longer _ _ c.args.name.now (10 ∷ []) c.in_err-write_text.ensures.beginning)

pub returns-in_err-write_text-2-clause-beginning : goal.returns-in_err-write_text-2-clause-beginning
returns-in_err-write_text-2-clause-beginning g c =
    let p = err_from_is_err_and c.from_residual-in_err-write_text-2.result c.from_residual-in_err-write_text-2.ensures.1 in
    rw p.1 (beginning_after _ _ _ c.args.name.now (10 ∷ []) c.in_ok-write_text.ensures.done c.in_err-write_text-2.ensures.beginning)
