use Rattle.std.proofs.Common.{drop}
use Rattle.template_builtins_sorting.specs.Pairs.{keyed_pair}
use Rattle.template_builtins_sorting.proofs.Entries.{pair_in}
use Rattle.template_builtins_sorting.proofs.Steps.{Goes}
use Rattle.template_builtins_sorting.proofs.pairs.keyed_pairs.Given as goal

abbrev pub invariant-loop-entry : goal.invariant-loop-entry
invariant-loop-entry l = Goes (λ e. keyed_pair l.by_value l.is_cased (pair_in e)) l.keyed.items (drop l.entry-index l.entries) l.entries
