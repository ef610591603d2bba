use Rattle.std.proofs.Common.{◌≡◌, ◌+◌, List, ◌∷◌, Ok, ap, sym, subst, drop, add-one, ◌∙◌}
use Rattle.std.proofs.Math.Seq.{drop-cons}
use Rattle.template_values_model.specs.Val.{Val}
use Rattle.template_values_core.specs.Shape.{pairs_in}
use Rattle.template_values_core.specs.declared.value.Entry.{Entry}
use Rattle.template_machine_meaning.specs.Replies.{guarded}
use Rattle.template_machine_meaning.specs.Spreads.{entries_held, entries_of_each, entries_or_refused, one_behind}
use Rattle.template_machine_meaning.specs.Undefined.{forbids_iterating}
use Rattle.template_machine_operations.proofs.Spreading.{entries_refused, next_put, none_put}
use Rattle.template_machine_operations.proofs.spreads.entries_of_each.Goals as goal

pub loop-map-init : goal.loop-map-init
loop-map-init g c =
    let all = entries_of_each c.args.mode (g.R.Records.known c.args.records.now) c.args.maps.now in
    ap (λ (es : List Entry). one_behind (Ok (pairs_in es)) all) c.new-entries.ensures.items ∙ none_put all

pub loop-map-preserved : goal.loop-map-preserved
loop-map-preserved g c =
    let known = g.R.Records.known c.args.records.now in
    let maps = c.args.maps.now in
    let index = c.loop-map.map-index in
    let here = c.map-item.result in
    let opened : drop index maps ≡ here ∷ drop (index + 1) maps =
    subst (λ v. drop index maps ≡ v ∷ drop (index + 1) maps) (sym c.map-item.is) (rw add-one (drop-cons maps index here c.loop-map-test.true)) in
    next_put (pairs_in c.loop-map.entries.items) _ (guarded (forbids_iterating c.args.mode here) (entries_or_refused (entries_held known here)))
    (entries_of_each c.args.mode known (drop (index + 1) maps)) (entries_of_each c.args.mode known maps) c.in_ok-push_entries.ensures
    (ap (λ (vs : List Val). one_behind (Ok (pairs_in c.loop-map.entries.items)) (entries_of_each c.args.mode known vs)) (sym opened) ∙ c.loop-map.invariant)

pub returns-in_err-push_entries : goal.returns-in_err-push_entries
returns-in_err-push_entries g c =
    let known = g.R.Records.known c.args.records.now in
    let maps = c.args.maps.now in
    let index = c.loop-map.map-index in
    let here = c.map-item.result in
    let opened : drop index maps ≡ here ∷ drop (index + 1) maps =
    subst (λ v. drop index maps ≡ v ∷ drop (index + 1) maps) (sym c.map-item.is) (rw add-one (drop-cons maps index here c.loop-map-test.true)) in
    entries_refused c.from_residual.result _ (pairs_in c.loop-map.entries.items) (guarded (forbids_iterating c.args.mode here) (entries_or_refused (entries_held known here)))
    (entries_of_each c.args.mode known (drop (index + 1) maps)) (entries_of_each c.args.mode known maps)
    (ap (λ (vs : List Val). one_behind (Ok (pairs_in c.loop-map.entries.items)) (entries_of_each c.args.mode known vs)) (sym opened) ∙ c.loop-map.invariant)
    c.in_err-push_entries.ensures c.from_residual.ensures.1
