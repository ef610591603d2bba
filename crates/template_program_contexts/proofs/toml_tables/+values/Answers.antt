use Rattle.std.proofs.Common.{◌≡◌, [], ◌∷◌, ◌∙◌, sym, inl, rules, arith}
use Rattle.std.proofs.lemmas.List.{nil_from_length}
use Rattle.std.proofs.lemmas.Result.{MatchResult-weaker}
use Rattle.std.specs.Vec.Iter.{into_iter_items}
use Rattle.toml.specs.View.{view, items_view, members_view}
use Rattle.toml.proofs.Views.{Entry as Member}
use Rattle.template_values_core.specs.declared.value.Entry.{Entry}
use Rattle.template_values_json.proofs.Made.{only_memory}
use Rattle.template_values_json.proofs.Plain.{plain_push}
use Rattle.template_program_contexts.specs.Toml.{items_fault, members_fault, toml_values}
use Rattle.template_program_contexts.proofs.EachPart.{all_values, entry_more, part_passes, value_more, within_more}
use Rattle.template_program_contexts.proofs.toml_tables.+values.Goals as goal

pub values_from-returns-clause-are : goal.values_from-returns-clause-are
values_from-returns-clause-are t c =
    let left = into_iter_items c.loop-item.item-iterator in
    let none : left ≡ [] = nil_from_length left (omega (arith, c.in-None.ensures.steps.0)) in
    all_values c.loop-item.values.items left (toml_values (items_view c.args.items.items)) none c.loop-item.invariant.all

pub entries_from-loop-name-preserved : goal.entries_from-loop-name-preserved
entries_from-loop-name-preserved t c =
    let m : Member = (c.in-Some.name, c.in-Some.member) in
    let e : Entry = record { key = c.in_ok-key.key; value = c.in_ok-value.value } in
    let left = c.next.new.self in
    let steps : c.loop-name.name-iterator ≡ m ∷ left = c.in-Some.ensures.steps in
    record {
      fault = sym (part_passes (view c.in-Some.member) (members_fault (members_view left)) c.in_ok-value.ensures.faultless) ∙ (rw steps at c.loop-name.invariant.fault);
      within = search rules;
      all = rw c.in_ok-push.ensures.items (entry_more c.loop-name.entries.items e m left _ c.in_ok-key.ensures.made c.in_ok-value.ensures.is (rw steps at c.loop-name.invariant.all));
      plain = rw c.in_ok-push.ensures.items (plain_push c.loop-name.entries.items e (_, c.in_ok-key.ensures.made) c.in_ok-value.ensures.shallow c.loop-name.invariant.plain);
    }

pub value_from-returns-in_ok-entries_from-in-Table-clause-refused : goal.value_from-returns-in_ok-entries_from-in-Table-clause-refused
value_from-returns-in_ok-entries_from-in-Table-clause-refused t c =
    let entries = c.in_ok-entries_from-in-Table in
    MatchResult-weaker c.from_map.result (only_memory entries.field-0.items c.from_map.result entries.ensures.plain c.from_map.ensures.refused)
    (λ v made. tt)
    (λ kinds memory. inl memory)

pub values_from-loop-item-preserved : goal.values_from-loop-item-preserved
values_from-loop-item-preserved t c =
    let x = c.in-Some.item in
    let v = c.in_ok-part_from.field-0 in
    let vs = c.loop-item.values.items in
    let left = into_iter_items c.next.new.self in
    let steps : into_iter_items c.loop-item.item-iterator ≡ x ∷ left = c.in-Some.ensures.steps.0 in
    record {
      fault = sym (part_passes (view x) (items_fault (items_view left)) c.in_ok-part_from.ensures.faultless) ∙ (rw steps at c.loop-item.invariant.fault);
      within = omega (arith, (rw steps at c.loop-item.invariant.within));
      all = rw c.in_ok-push.ensures.items (value_more vs v x left _ c.in_ok-part_from.ensures.is (rw steps at c.loop-item.invariant.all));
      shallow = rw c.in_ok-push.ensures.items (within_more vs v c.in_ok-part_from.ensures.shallow c.loop-item.invariant.shallow);
    }
