-- A store replaces what is found, or is put behind the others.
use Rattle.std.proofs.Common.{◌≡◌, ◌∙◌, ◌++◌, ◌<◌, List, ℕ, sym, ap, subst, refl, length, None, Some, IsSome, arith, rules}
use Rattle.std.specs.Vec.{vec_capacity}
use Rattle.std.specs.List.{position}
use Rattle.template_values_model.specs.Val.{Val}
use Rattle.template_machine_meaning.specs.World.{local_at, put_local}
use Rattle.template_machine_frames.specs.declared.locals.TheConstants.{FEW}
use Rattle.template_machine_frames.specs.Locals.{locals_of, is_named}
use Rattle.template_machine_frames.proofs.Named.{found_here, not_found, put_at, put_new, where_made, where_stored}
use Rattle.template_machine_frames.proofs.Behind.{none_behind, none_behind_few, put_alone, put_behind_them, put_in_front}
use Rattle.template_machine_frames.proofs.locals.Locals.insert.Goals as goal
use Rattle.template_machine_frames.proofs.locals.Locals.insert.Goals.{then-push_growing, else-push_growing}

pub returns-in-Some-clause-stored : goal.returns-in-Some-clause-stored
returns-in-Some-clause-stored c =
    let name = c.args.name.now in
    let few = c.self.inside.few.items in
    let further = c.self.inside.further in
    let found : position (is_named name) few ≡ Some c.in-Some.place =
    ap (position (is_named name)) (sym c.as_slice.ensures.value) ∙ sym c.in-Some.ensures in
    let here : IsSome (local_at name (locals_of few)) =
    subst IsSome (found_here name few c.in-Some.place c.index_mut.result.now found c.index_mut.ensures.value) refl in
    ap (λ (xs : List (List ℕ × Val)). xs ++ further)
    (put_at name c.args.value few c.in-Some.place c.index_mut.result.now c.set.new.self found
    c.index_mut.ensures.value (ap (λ n. n.now) c.set.ensures.name) c.set.ensures.value)
    ∙ put_in_front name c.args.value (locals_of few) further here
    ∙ ap (put_local name c.args.value) c.self.view_is

pub returns-then-len-capacity-clause-stored : goal.returns-then-len-capacity-clause-stored
returns-then-len-capacity-clause-stored c =
    let name = c.args.name.now in
    let few = c.self.inside.few in
    let further = c.self.inside.further in
    let found : position (is_named name) few.items ≡ None = ap (position (is_named name)) (sym c.as_slice.ensures.value) ∙ sym c.in-None.ensures in
    let room : length few.items < vec_capacity few = omega (arith, c.if-len-capacity.true, c.len.ensures, c.capacity.ensures, few.ok.0) in
    put_alone name c.args.value (locals_of few.items) (locals_of c.push_reserved.new.self.items) further (none_behind few further c.self.invariant room)
    (ap locals_of c.push_reserved.ensures.items
    ∙ put_new name c.args.value few.items (record { name = c.args.name; value = c.args.value }) found refl refl)
    ∙ ap (put_local name c.args.value) c.self.view_is

pub returns-then-len-ge-FEW-clause-stored : goal.returns-then-len-ge-FEW-clause-stored
returns-then-len-ge-FEW-clause-stored c =
    let name = c.args.name.now in
    let few = c.self.inside.few.items in
    let further = c.self.inside.further in
    let found : position (is_named name) few ≡ None = ap (position (is_named name)) (sym c.as_slice.ensures.value) ∙ sym c.in-None.ensures in
    where_stored c.insert.result _ _
    (λ stored. ap (λ (xs : List (List ℕ × Val)). locals_of few ++ xs) stored
    ∙ put_behind_them name c.args.value (locals_of few) further (not_found name few found)
    ∙ ap (put_local name c.args.value) c.self.view_is) c.insert.ensures.stored

pub returns-after-push_growing-clause-stored : goal.returns-after-push_growing-clause-stored
returns-after-push_growing-clause-stored c =
    let name = c.args.name.now in
    let few = c.self.inside.few in
    let further = c.self.inside.further in
    let found : position (is_named name) few.items ≡ None = ap (position (is_named name)) (sym c.as_slice.ensures.value) ∙ sym c.in-None.ensures in
    let short : length few.items < FEW = omega (arith, c.if-len-ge-FEW.false, c.len-else-len-capacity.ensures, few.ok.0) in
    elim c.if-push_growing.branch [
      | then-push_growing w ↦ where_made c.if-push_growing.result _
          (put_alone name c.args.value (locals_of few.items) (locals_of c.push_growing.new.items.items) further (none_behind_few few further c.self.invariant short)
          (ap locals_of (c.push_growing.ensures.pushed w.if-push_growing.true)
          ∙ put_new name c.args.value few.items (record { name = c.args.name; value = c.args.value }) found refl refl)
          ∙ ap (put_local name c.args.value) c.self.view_is)
      | else-push_growing w ↦ search (rules, w.result-is)
    ]
