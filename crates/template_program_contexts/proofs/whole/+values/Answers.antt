use Rattle.std.proofs.Common.{◌≡◌, ◌<◌, [], ◌∷◌, rules, arith}
use Rattle.std.proofs.lemmas.List.{nil_from_length}
use Rattle.std.specs.Vec.Iter.{into_iter_items}
use Rattle.serde_json.specs.Data.{items_depth, members_depth}
use Rattle.serde_json.specs.View.{items_view, members_view}
use Rattle.serde_json.proofs.Views.{Entry as Member}
use Rattle.template_values_model.specs.Val.{list, map, vals_of}
use Rattle.template_values_core.specs.Maps.{pairs_of}
use Rattle.template_values_core.specs.Shape.{pairs_in}
use Rattle.template_values_core.specs.declared.value.Entry.{Entry}
use Rattle.template_values_json.specs.Json.{values_of, named_values}
use Rattle.template_values_json.proofs.Levels.{vals_depth-values_of, pairs_depth-named_values, items_within, members_within}
use Rattle.template_values_json.proofs.Made.{never_deeper}
use Rattle.template_values_json.proofs.Rising.{named_rising}
use Rattle.template_values_json.proofs.Steps.{all_values, entry_more}
use Rattle.template_program_contexts.proofs.whole.+values.Goals as goal

pub value_from-returns-in_ok-values_from-in-Array-clause-refused : goal.value_from-returns-in_ok-values_from-in-Array-clause-refused
value_from-returns-in_ok-values_from-in-Array-clause-refused t c =
    let items = c.in-Array.items.items in
    let values = c.in_ok-values_from-in-Array.field-0.items in
    let shallow : items_depth (items_view items) < 127 = items_within c.args.json c.in-Array.items 127 c.in-Array.is c.requires.shallow in
    let are : vals_of values ≡ values_of (items_view items) = c.in_ok-values_from-in-Array.ensures.are in
    never_deeper _ (list (vals_of values)) c.from_list.result (rw are (omega (arith, shallow, vals_depth-values_of (items_view items)))) c.from_list.ensures.refused

pub value_from-returns-in_ok-entries_from-in-Object-clause-refused : goal.value_from-returns-in_ok-entries_from-in-Object-clause-refused
value_from-returns-in_ok-entries_from-in-Object-clause-refused t c =
    let members = c.in-Object.members.entries in
    let entries = c.in_ok-entries_from-in-Object.field-0.items in
    let shallow : members_depth (members_view members) < 127 = members_within c.args.json c.in-Object.members 127 c.in-Object.is c.requires.shallow in
    let are : pairs_in entries ≡ named_values (members_view members) = c.in_ok-entries_from-in-Object.ensures.are in
    never_deeper _ (map (pairs_of (pairs_in entries))) c.from_rising_entries.result
    (rw are (omega (arith, shallow, pairs_depth-named_values (members_view members)))) c.from_rising_entries.ensures.refused

pub values_from-returns-clause-are : goal.values_from-returns-clause-are
values_from-returns-clause-are t c =
    let left = into_iter_items c.loop-item.item-iterator in
    let none : left ≡ [] = nil_from_length left (omega (arith, c.in-None.ensures.steps.0)) in
    all_values c.loop-item.values.items left (values_of (items_view c.args.items.items)) none c.loop-item.invariant.all

pub entries_from-loop-name-preserved : goal.entries_from-loop-name-preserved
entries_from-loop-name-preserved t c =
    let m : Member = (c.in-Some.name, c.in-Some.member) in
    let e : Entry = record { key = c.in_ok-key.key; value = c.in_ok-value.value } in
    let left = c.next.new.self in
    let steps : c.loop-name.name-iterator ≡ m ∷ left = c.in-Some.ensures.steps in
    record {
      floats = search rules;
      shallow = search rules;
      all = rw c.in_ok-push.ensures.items (entry_more c.loop-name.entries.items e m left _ c.in_ok-key.ensures.made c.in_ok-value.ensures.is (rw steps at c.loop-name.invariant.all));
    }

pub entries_from-returns-clause-rising : goal.entries_from-returns-clause-rising
entries_from-returns-clause-rising t c =
    let are : pairs_in c.loop-name.entries.items ≡ named_values (members_view c.args.members.entries) = search rules in
    named_rising c.args.members.entries c.loop-name.entries.items c.into_iter-name-iterator.ensures.into_iter_gives.5 are
