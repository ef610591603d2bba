use Rattle.std.proofs.Common.{drop}
use Rattle.std.specs.Prelude.{option_copied}
use Rattle.template_callables.specs.Views.{seen_in}
use Rattle.template_builtins_sorting.specs.Groups.{group_of}
use Rattle.template_builtins_sorting.specs.Runs.{held_by}
use Rattle.template_builtins_sorting.proofs.Steps.{Goes}
use Rattle.template_builtins_sorting.proofs.groups.groups_of.Given as goal

abbrev pub invariant-loop-run : goal.invariant-loop-run
invariant-loop-run l =
    Goes (λ run. group_of (seen_in l.view) l.path (option_copied l.fn.default) (held_by run)) l.groups.items
    (drop l.run-index l.runs) l.runs
