use Rattle.std.proofs.Common.{◌≡◌, true, false, Option, List, sym, ◌∙◌, subst}
use Rattle.template_values_model.specs.Val.{Val}
use Rattle.template_machine_calls.specs.Binding.{AreKeywords}
use Rattle.template_machine_calls.proofs.Handing.{ends_in_keywords, ends_told, none_ends, parted_keywords, parted_none, parted_some}
use Rattle.template_machine_calls.proofs.binding.part.Goals as goal

pub returns-then-not-ends_in_keywords-clause-parts : goal.returns-then-not-ends_in_keywords-clause-parts
returns-then-not-ends_in_keywords-clause-parts c =
    parted_none c.args.args.items (ends_told c.args.args.items c.as_slice.result.now c.ends_in_keywords.result false c.as_slice.ensures.value c.ends_in_keywords.ensures c.if-not-ends_in_keywords.true)

pub returns-in-Some-clause-parts : goal.returns-in-Some-clause-parts
returns-in-Some-clause-parts c =
    parted_some c.args.args.items c.pop.new.self.items c.in-Some.keywords c.in-Some.ensures.items
    (ends_told c.args.args.items c.as_slice.result.now c.ends_in_keywords.result true c.as_slice.ensures.value c.ends_in_keywords.ensures c.if-not-ends_in_keywords.false)

pub returns-in-Some-clause-keywords : goal.returns-in-Some-clause-keywords
returns-in-Some-clause-keywords c =
    let ends : ends_in_keywords c.args.args.items ≡ true =
    ends_told c.args.args.items c.as_slice.result.now c.ends_in_keywords.result true c.as_slice.ensures.value c.ends_in_keywords.ensures c.if-not-ends_in_keywords.false in
    subst (λ (p : List Val × Option Val). AreKeywords p.1)
    (parted_some c.args.args.items c.pop.new.self.items c.in-Some.keywords c.in-Some.ensures.items ends) (parted_keywords c.args.args.items)

pub returns-in-None-clause-parts : goal.returns-in-None-clause-parts
returns-in-None-clause-parts c =
    absurd (none_ends c.args.args.items (sym c.args.args.ok.0 ∙ c.in-None.ensures.cases.0)
    (ends_told c.args.args.items c.as_slice.result.now c.ends_in_keywords.result true c.as_slice.ensures.value c.ends_in_keywords.ensures c.if-not-ends_in_keywords.false))
