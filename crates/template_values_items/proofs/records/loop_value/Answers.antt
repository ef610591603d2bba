-- Each arm is found by its name.
use Rattle.std.proofs.Common.{◌∙◌, ◌-◌, ap, sym, subst, pos, Ok}
use Rattle.template_values_model.specs.Gives.{Gives}
use Rattle.template_values_model.specs.Val.{Val, int}
use Rattle.template_values_operators.specs.Records.{loop_value}
use Rattle.template_values_items.proofs.Names.{rest_named}
use Rattle.template_values_items.proofs.records.loop_value.Goals as goal

pub returns-in-index0 : goal.returns-in-index0
returns-in-index0 c =
    let named = ap (λ n. loop_value n c.args.items.now c.args.place c.args.depth) c.in-index0.is in
    ap Ok (named ∙ sym c.whole.ensures)

pub returns-in-index : goal.returns-in-index
returns-in-index c =
    let named = ap (λ n. loop_value n c.args.items.now c.args.place c.args.depth) c.in-index.is in
    ap Ok (named ∙ sym c.one_more.ensures)

pub returns-in-length : goal.returns-in-length
returns-in-length c =
    let named = ap (λ n. loop_value n c.args.items.now c.args.place c.args.depth) c.in-length.is in
    ap Ok (named ∙ sym c.whole-in-length.ensures)

pub returns-in-revindex : goal.returns-in-revindex
returns-in-revindex c =
    let named = ap (λ n. loop_value n c.args.items.now c.args.place c.args.depth) c.in-revindex.is in
    ap Ok (named ∙ ap (λ n. int (pos n)) (sym c.saturating_sub.ensures) ∙ sym c.whole-in-revindex.ensures)

pub returns-in-revindex0 : goal.returns-in-revindex0
returns-in-revindex0 c =
    let named = ap (λ n. loop_value n c.args.items.now c.args.place c.args.depth) c.in-revindex0.is in
    let left = c.saturating_sub-in-revindex0-2.ensures ∙ ap (λ n. n - 1) c.saturating_sub-in-revindex0.ensures in
    ap Ok (named ∙ ap (λ n. int (pos n)) (sym left) ∙ sym c.whole-in-revindex0.ensures)

pub returns-in_default : goal.returns-in_default
returns-in_default c =
    let rest = rest_named c.args.name.now c.args.items.now c.args.place c.args.depth c.in_default.not-index0 c.in_default.not-index
    c.in_default.not-length c.in_default.not-revindex c.in_default.not-revindex0 in
    subst (λ (v : Val). Gives c.loop_rest.result (Ok v)) (sym rest) c.loop_rest.ensures
