-- Each arm is found by its name.
use Rattle.std.proofs.Common.{◌∙◌, ap, sym, subst, Ok, unwrap_or}
use Rattle.template_values_model.specs.Gives.{Gives}
use Rattle.template_values_model.specs.Val.{Val, truth, undefined}
use Rattle.template_values_items.specs.Loops.{loop_rest}
use Rattle.template_values_items.proofs.Names.{nothing_named}
use Rattle.template_values_items.proofs.records.loop_rest.Goals as goal

pub returns-in-first : goal.returns-in-first
returns-in-first c =
    let named = ap (λ n. loop_rest n c.args.items.now c.args.place c.args.depth) c.in-first.is in
    ap Ok (named ∙ sym c.from_bool.ensures)

pub returns-in-last : goal.returns-in-last
returns-in-last c =
    let named = ap (λ n. loop_rest n c.args.items.now c.args.place c.args.depth) c.in-last.is in
    ap Ok (named ∙ ap truth (sym c.is_last.ensures) ∙ sym c.from_bool-in-last.ensures)

pub returns-in-depth : goal.returns-in-depth
returns-in-depth c =
    let named = ap (λ n. loop_rest n c.args.items.now c.args.place c.args.depth) c.in-depth.is in
    ap Ok (named ∙ sym c.one_more.ensures)

pub returns-in-depth0 : goal.returns-in-depth0
returns-in-depth0 c =
    let named = ap (λ n. loop_rest n c.args.items.now c.args.place c.args.depth) c.in-depth0.is in
    ap Ok (named ∙ sym c.whole.ensures)

pub returns-in-previtem : goal.returns-in-previtem
returns-in-previtem c =
    let named = ap (λ n. loop_rest n c.args.items.now c.args.place c.args.depth) c.in-previtem.is in
    let found = ap (λ o. unwrap_or o undefined) c.item_before.ensures ∙ sym named in
    subst (λ (v : Val). Gives c.copy_or_undefined.result (Ok v)) found c.copy_or_undefined.ensures

pub returns-in-nextitem : goal.returns-in-nextitem
returns-in-nextitem c =
    let named = ap (λ n. loop_rest n c.args.items.now c.args.place c.args.depth) c.in-nextitem.is in
    let found = ap (λ o. unwrap_or o undefined) c.item_after.ensures ∙ sym named in
    subst (λ (v : Val). Gives c.copy_or_undefined-in-nextitem.result (Ok v)) found c.copy_or_undefined-in-nextitem.ensures

pub returns-in_default : goal.returns-in_default
returns-in_default c =
    let none = nothing_named c.args.name.now c.args.items.now c.args.place c.args.depth c.in_default.not-first c.in_default.not-last
    c.in_default.not-depth c.in_default.not-depth0 c.in_default.not-previtem c.in_default.not-nextitem in
    ap Ok (none ∙ sym c.undefined.ensures)
