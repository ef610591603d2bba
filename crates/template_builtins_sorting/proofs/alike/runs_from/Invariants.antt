use Rattle.std.proofs.Common.{◌≡◌, [], ◌∷◌, ◌++◌, map, drop}
use Rattle.template_builtins_sorting.specs.Alike.{runs_from}
use Rattle.template_builtins_sorting.specs.Runs.{held_by}
use Rattle.template_builtins_sorting.proofs.alike.runs_from.Given as goal

-- the runs that are closed, and those from the open one on
abbrev pub invariant-loop-next : goal.invariant-loop-next
invariant-loop-next l =
    map held_by l.runs.items ++ runs_from l.first l.items.items (drop l.next-index l.others)
    ≡ runs_from l.fn.first (l.fn.first.item ∷ []) l.others
