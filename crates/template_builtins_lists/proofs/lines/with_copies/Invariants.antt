use Rattle.std.proofs.Common.{◌≡◌, ◌++◌, replicate}
use Rattle.template_builtins_lists.proofs.lines.with_copies.Given as goal

-- the items, and as many copies as there were turns
abbrev pub invariant-loop-made : goal.invariant-loop-made
invariant-loop-made l = l.whole.items ≡ l.fn.items.items ++ replicate l._made l.value
