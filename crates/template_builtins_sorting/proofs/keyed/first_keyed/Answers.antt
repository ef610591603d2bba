use Rattle.std.proofs.Common.{◌∙◌, ap, sym, Some}
use Rattle.template_builtins_sorting.specs.Sorted.{stands_before}
use Rattle.template_builtins_sorting.proofs.Ends.{first_with, first_with-none, first_with-push}
use Rattle.template_builtins_sorting.proofs.keyed.first_keyed.Goals as goal

pub loop-next-init : goal.loop-next-init
loop-next-init c = first_with-none (stands_before c.args.is_reversed) c.args.keyed.items

pub loop-next-preserved : goal.loop-next-preserved
loop-next-preserved c =
    ap (λ k. first_with (stands_before c.args.is_reversed) c.pop.new.self.items (Some k)) c.first_of_two.ensures
    ∙ sym (first_with-push (stands_before c.args.is_reversed) c.pop.new.self.items c.in-Some.next c.loop-next.first)
    ∙ ap (λ xs. first_with (stands_before c.args.is_reversed) xs c.loop-next.first) (sym c.in-Some.ensures.items)
    ∙ c.loop-next.invariant
