use Rattle.std.proofs.Common.{◌≡◌, ◌<◌, List, [], arith, sym, ap, ◌∙◌}
use Rattle.std.proofs.lemmas.Result.{IfOk-weaker}
use Rattle.json.specs.Tree.{items_depth, members_depth}
use Rattle.json.specs.Value.{items_view, members_view, value_view}
use Rattle.json.proofs.Trees.{view-Object}
use Rattle.template_values_model.specs.Val.{Val, list, map, vals_of}
use Rattle.template_values_core.specs.Maps.{collected}
use Rattle.template_values_core.specs.Shape.{pairs_in}
use Rattle.template_values_core.specs.declared.value.Entry.{Entry}
use Rattle.template_values_json.proofs.Levels.{put_within}
use Rattle.template_values_json.specs.Spelled.{spelled_value, spelled_values, spelled_pairs}
use Rattle.template_values_json.proofs.ContextLevels.{never_deep, vals_depth-spelled_values, pairs_depth-spelled_pairs, items_within, members_within}
use Rattle.template_values_json.proofs.ContextSteps.{values_end, entry_more, members_fall}
use Rattle.template_values_json.proofs.spelled.+values.Goals as goal

pub value_from-returns-in_ok-values_from-in-Array-clause-refused : goal.value_from-returns-in_ok-values_from-in-Array-clause-refused
value_from-returns-in_ok-values_from-in-Array-clause-refused t c =
    let items = c.in-Array.items.items in
    let values = c.in_ok-values_from-in-Array.field-0.items in
    let shallow : items_depth (items_view items) < 127 = items_within c.args.json.now c.in-Array.items 127 c.in-Array.is c.requires.shallow in
    let are : vals_of values ≡ spelled_values (items_view items) = c.in_ok-values_from-in-Array.ensures.are ∙ ap (λ xs. spelled_values (items_view xs)) c.deref.ensures.value in
    never_deep (list (vals_of values)) c.from_list.result (rw are (omega (arith, shallow, vals_depth-spelled_values (items_view items)))) c.from_list.ensures.refused

pub value_from-returns-in_ok-entries_from-in-Object-clause-is : goal.value_from-returns-in_ok-entries_from-in-Object-clause-is
value_from-returns-in_ok-entries_from-in-Object-clause-is t c =
    let members = c.in-Object.members.items in
    let entries = c.in_ok-entries_from-in-Object.field-0.items in
    let are : pairs_in entries ≡ spelled_pairs (members_view members) = c.in_ok-entries_from-in-Object.ensures.are ∙ ap (λ xs. spelled_pairs (members_view xs)) c.deref-in-Object.ensures.value in
    let seen : spelled_value (value_view c.args.json.now) ≡ map (collected (spelled_pairs (members_view members))) = ap (λ j. spelled_value (value_view j)) c.in-Object.is ∙ ap spelled_value (view-Object c.in-Object.members) in
    IfOk-weaker c.from_map.result _ _ (λ v made. made ∙ ap (λ (ps : List (Val × Val)). map (collected ps)) are ∙ sym seen) c.from_map.ensures.made

pub value_from-returns-in_ok-entries_from-in-Object-clause-refused : goal.value_from-returns-in_ok-entries_from-in-Object-clause-refused
value_from-returns-in_ok-entries_from-in-Object-clause-refused t c =
    let members = c.in-Object.members.items in
    let entries = c.in_ok-entries_from-in-Object.field-0.items in
    let shallow : members_depth (members_view members) < 127 = members_within c.args.json.now c.in-Object.members 127 c.in-Object.is c.requires.shallow in
    let are : pairs_in entries ≡ spelled_pairs (members_view members) = c.in_ok-entries_from-in-Object.ensures.are ∙ ap (λ xs. spelled_pairs (members_view xs)) c.deref-in-Object.ensures.value in
    never_deep (map (collected (pairs_in entries))) c.from_map.result
    (rw are (omega (arith, shallow, put_within [] (spelled_pairs (members_view members)), pairs_depth-spelled_pairs (members_view members)))) c.from_map.ensures.refused

pub values_from-returns-clause-are : goal.values_from-returns-clause-are
values_from-returns-clause-are t c = values_end c.args.items.now c.loop-item.item-index c.loop-item.values.items c.loop-item-test.false c.loop-item.invariant.all

pub entries_from-loop-member-preserved : goal.entries_from-loop-member-preserved
entries_from-loop-member-preserved t c =
    let members = c.args.members.now in
    let k = c.loop-member.member-index in
    let e : Entry = record { key = c.in_ok-key.key; value = c.in_ok-value.value } in
    record {
      shallow = omega (arith, c.loop-member.invariant.shallow, members_fall members k c.member-item.result c.loop-member-test.true);
      all = rw c.in_ok-push.ensures.items (entry_more members k c.member-item.result e c.loop-member.entries.items _ c.loop-member-test.true c.member-item.is c.in_ok-key.ensures.made c.in_ok-value.ensures.is c.loop-member.invariant.all);
    }
