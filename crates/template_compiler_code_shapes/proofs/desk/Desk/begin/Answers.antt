use Rattle.std.proofs.Common.{◌∙◌, sym, None, arith}
use Rattle.template_compiler_code_shapes.proofs.DeskLemmas.{slot_more, slots_longer}
use Rattle.template_compiler_code_shapes.proofs.desk.Desk.begin.Goals as goal

pub loop-count-preserved : goal.loop-count-preserved
loop-count-preserved c =
    let xs = c.loop-count.slots.items in
    let ys = c.push-in-loop-count.new.self.items in
    let i = c.loop-count.invariant in
    record {
      count = let h = slots_longer xs ys None c.in_ok-push-2.ensures.items in let n = i.count in omega arith;
      first = slot_more xs ys 0 c.in_ok-push-2.ensures.items ∙ i.first;
      only = λ q s h. i.only q s (sym (slot_more xs ys q c.in_ok-push-2.ensures.items) ∙ h);
    }
