use Rattle.std.proofs.Common.{arith}
use Rattle.std.proofs.lemmas.Result.{err_from_is_err_and}
use Rattle.template_builtins_sorting.specs.Pairs.{keyed_pair}
use Rattle.template_builtins_sorting.proofs.Entries.{goes_all_pairs, goes_err_pairs}
use Rattle.template_builtins_sorting.proofs.pairs.keyed_pairs.Goals as goal

pub returns-in_err-keyed_pair : goal.returns-in_err-keyed_pair
returns-in_err-keyed_pair c =
    let p = err_from_is_err_and c.from_residual.result c.from_residual.ensures.1 in
    rw (p.1, p.2)
    (goes_err_pairs (keyed_pair c.args.by_value c.args.is_cased) c.loop-entry.keyed.items c.args.entries.now c.loop-entry.entry-index
    c.entry-item.result _ (omega arith) c.entry-item.is c.loop-entry.invariant c.in_err-keyed_pair.ensures)

pub returns : goal.returns
returns c =
    goes_all_pairs (keyed_pair c.args.by_value c.args.is_cased) c.loop-entry.keyed.items c.args.entries.now c.loop-entry.entry-index
    (omega arith) c.loop-entry.invariant
