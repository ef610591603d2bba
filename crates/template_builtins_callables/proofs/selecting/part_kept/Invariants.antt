use Rattle.std.proofs.Common.{◌≡◌, drop}
use Rattle.std.specs.Option.{option_map}
use Rattle.template_callables.specs.Views.{seen_in}
use Rattle.template_builtins_paths.proofs.Each.{onto}
use Rattle.template_builtins_callables.specs.Each.{kept, part_answers}
use Rattle.template_builtins_callables.specs.Naming.{asked_of}
use Rattle.template_builtins_callables.proofs.selecting.part_kept.Given as goal

-- what was found so far stands before what is kept of the items that are left
abbrev pub invariant-loop-item : goal.invariant-loop-item
invariant-loop-item l =
    kept (part_answers l.wanted (seen_in l.view) l.path (option_map asked_of l.test)) l.items
    ≡ onto l.found.items (kept (part_answers l.wanted (seen_in l.view) l.path (option_map asked_of l.test)) (drop l.item-index l.items))
