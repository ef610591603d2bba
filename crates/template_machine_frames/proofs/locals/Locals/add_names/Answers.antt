-- Those of the first few, then the others.
use Rattle.std.proofs.Common.{◌∙◌, ap, ℕ, List, is_some}
use Rattle.std.specs.Prelude.{◌||◌}
use Rattle.std.specs.BTreeSet.{contains_text}
use Rattle.template_values_model.specs.Val.{Val}
use Rattle.template_machine_meaning.specs.World.{local_at}
use Rattle.template_machine_frames.specs.declared.local.Local.{Local}
use Rattle.template_machine_frames.specs.Locals.{locals_of}
use Rattle.template_machine_frames.proofs.Behind.{names_of_two}
use Rattle.template_machine_frames.proofs.Named.{where_stored}
use Rattle.template_machine_frames.proofs.locals.Locals.add_names.Goals as goal

pub returns-clause-added : goal.returns-clause-added
returns-clause-added c =
    where_stored c.add_names-2.result _ _
    (λ second q.
    let few = c.self.inside.few.items in
    let further = c.self.inside.further in
    let before = contains_text c.args.names.now q in
    names_of_two q (locals_of few) further before (contains_text c.add_names.new.names q) (contains_text c.add_names-2.new.names q)
    (c.in_ok-add_names.ensures.added q ∙ ap (λ (ls : List Local). before || is_some (local_at q (locals_of ls))) c.as_slice.ensures.value)
    (second q)
    ∙ ap (λ (xs : List (List ℕ × Val)). before || is_some (local_at q xs)) c.self.view_is)
    c.add_names-2.ensures.added
