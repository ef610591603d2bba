use Rattle.std.proofs.Common.{arith}
use Rattle.std.specs.Prelude.{option_copied}
use Rattle.std.proofs.lemmas.Result.{err_from_is_err_and}
use Rattle.template_callables.specs.Views.{seen_in}
use Rattle.template_builtins_sorting.specs.Groups.{group_of}
use Rattle.template_builtins_sorting.specs.Runs.{held_by}
use Rattle.template_builtins_sorting.proofs.Steps.{goes_all_of, goes_err_of}
use Rattle.template_builtins_sorting.proofs.groups.groups_of.Goals as goal

pub returns-in_err-group_of : goal.returns-in_err-group_of
returns-in_err-group_of c =
    let p = err_from_is_err_and c.from_residual.result c.from_residual.ensures.1 in
    rw (p.1, p.2)
    (goes_err_of (group_of (seen_in c.args.view.now) c.args.path.now (option_copied c.args.default)) held_by c.loop-run.groups.items
    c.args.runs.now c.loop-run.run-index c.run-item.result _ (omega arith) c.run-item.is c.loop-run.invariant c.in_err-group_of.ensures)

pub returns : goal.returns
returns c =
    goes_all_of (group_of (seen_in c.args.view.now) c.args.path.now (option_copied c.args.default)) held_by c.loop-run.groups.items
    c.args.runs.now c.loop-run.run-index (omega arith) c.loop-run.invariant
