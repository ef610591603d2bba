use Rattle.std.proofs.Common.{◌≡◌, ◌∙◌, List, ℕ, true, false, get_or, set, sym, refl, inl, inr, subst}
use Rattle.std.proofs.lemmas.List.{get_or_read}
use Rattle.template_program_reached.specs.Places.{IsMarked}
use Rattle.template_program_reached.proofs.Marking.{one_more_mark}
use Rattle.template_program_reached.proofs.marks.mark.Goals as goal

pub returns-clause-marked : goal.returns-clause-marked
returns-clause-marked c =
    let marks = c.args.found.now.marks.items in
    let unmarked : get_or marks c.args.place false ≡ false =
    sym (get_or_read marks c.args.place c.index.result.now c.requires.within c.index.ensures false) ∙ c.if-index.false in
    subst (λ (order : List ℕ). IsMarked (set marks c.args.place true) order) (sym c.in_ok-push.ensures.items)
    (one_more_mark marks c.args.found.now.order.items c.args.place c.requires.within unmarked c.requires.marked)

pub returns-clause-came : goal.returns-clause-came
returns-clause-came c = inr c.in_ok-push.ensures.items

pub returns-then-index-clause-came : goal.returns-then-index-clause-came
returns-then-index-clause-came c =
    let marks = c.args.found.now.marks.items in
    let marked : get_or marks c.args.place false ≡ true =
    sym (get_or_read marks c.args.place c.index.result.now c.requires.within c.index.ensures false) ∙ c.if-index.true in
    inl (refl, c.requires.marked.marked c.args.place marked)
