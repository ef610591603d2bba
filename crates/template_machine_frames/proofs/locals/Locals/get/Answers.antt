-- What is found has the value of the name.
use Rattle.std.proofs.Common.{ap, ◌∙◌, option_map, Option}
use Rattle.std.specs.List.{find}
use Rattle.std.specs.Option.{option_or}
use Rattle.template_values_model.specs.Val.{Val}
use Rattle.template_machine_meaning.specs.World.{local_at}
use Rattle.template_machine_frames.specs.Locals.{is_named, locals_of}
use Rattle.template_machine_frames.proofs.Named.{value_in, found_at}
use Rattle.template_machine_frames.proofs.Behind.{found_in_two}
use Rattle.template_machine_frames.proofs.locals.Locals.get.Goals as goal

pub returns-in-Some : goal.returns-in-Some
returns-in-Some c =
    let name = c.args.name.now in
    let few = c.self.inside.few.items in
    let further = c.self.inside.further in
    ap (λ (o : Option Val). option_or o (local_at name further))
    (ap (option_map value_in) (c.in-Some.ensures ∙ ap (find (is_named name)) c.as_slice.ensures.value) ∙ found_at name few)
    ∙ found_in_two name (locals_of few) further ∙ ap (local_at name) c.self.view_is

pub returns-in-None : goal.returns-in-None
returns-in-None c =
    let name = c.args.name.now in
    let few = c.self.inside.few.items in
    let further = c.self.inside.further in
    c.get.ensures ∙ ap (λ (o : Option Val). option_or o (local_at name further))
    (ap (option_map value_in) (c.in-None.ensures ∙ ap (find (is_named name)) c.as_slice.ensures.value) ∙ found_at name few)
    ∙ found_in_two name (locals_of few) further ∙ ap (local_at name) c.self.view_is
