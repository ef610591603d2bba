use Rattle.std.proofs.Common.{◌≡◌, drop}
use Rattle.std.specs.Option.{option_map}
use Rattle.template_callables.specs.Views.{seen_in}
use Rattle.template_builtins_paths.proofs.Each.{onto}
use Rattle.template_builtins_callables.specs.Each.{answers, kept}
use Rattle.template_builtins_callables.specs.Naming.{asked_of}
use Rattle.template_builtins_callables.proofs.selecting.kept.Given as goal

-- what was found so far stands before what is kept of the items that are left
abbrev pub invariant-loop-item : goal.invariant-loop-item
invariant-loop-item l =
    kept (answers l.wanted (seen_in l.view) (option_map asked_of l.test)) l.items
    ≡ onto l.found.items (kept (answers l.wanted (seen_in l.view) (option_map asked_of l.test)) (drop l.item-index l.items))
