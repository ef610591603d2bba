use Rattle.std.proofs.Common.{◌≡◌, drop, option_copied}
use Rattle.template_builtins_paths.specs.Items.{each}
use Rattle.template_builtins_paths.proofs.Each.{onto}
use Rattle.template_builtins_lists.specs.Lines.{cut, filled_list}
use Rattle.template_builtins_lists.proofs.lines.lists_cut.Given as goal

-- the lists so far stand before those of the items that are left
abbrev pub invariant-loop-length : goal.invariant-loop-length
invariant-loop-length l =
    each (filled_list l.width (option_copied l.filling)) (cut l.lengths l.items)
    ≡ onto l.lists.items (each (filled_list l.width (option_copied l.filling)) (cut (drop l.length-index l.lengths) l.rest))
