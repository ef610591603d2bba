use Rattle.std.proofs.Common.{◌∙◌, ap, sym, [], ◌∷◌, ◌++◌, true, false, arith, rules}
use Rattle.template_builtins_sorting.proofs.Equals.{met_more, nothing_more}
use Rattle.template_builtins_sorting.proofs.alike.distinct_items.Goals as goal
use Rattle.template_builtins_sorting.proofs.alike.distinct_items.Goals.{then-branch+in_ok-copy-2+in_ok-push, else-branch}

pub loop-next-preserved : goal.loop-next-preserved
loop-next-preserved c = elim c.if-branch.branch [
  | then-branch+in_ok-copy-2+in_ok-push w ↦
      met_more _ _ c.next-item.result c.in_ok-copy.field-0 c.loop-next.seen.keys _ c.loop-next.items.items _ true
      (omega arith) c.next-item.is (search rules) c.loop-next.invariant (sym w.if-branch.true ∙ c.in_ok-insert.ensures.added)
      c.in_ok-insert.ensures.keys
      (ap (λ v. v.items) w.items-is ∙ w.in_ok-push.ensures.items ∙ ap (λ v. c.loop-next.items.items ++ v ∷ []) (search rules))
  | else-branch w ↦
      met_more _ _ c.next-item.result c.in_ok-copy.field-0 c.loop-next.seen.keys _ c.loop-next.items.items _ false
      (omega arith) c.next-item.is (search rules) c.loop-next.invariant (sym w.if-branch.false ∙ c.in_ok-insert.ensures.added)
      c.in_ok-insert.ensures.keys (ap (λ v. v.items) w.items-is ∙ sym (nothing_more c.loop-next.items.items))
]
