-- Those of the first few, then the others.
use Rattle.std.proofs.Common.{◌∙◌, ◌++◌, ap, ℕ, List}
use Rattle.template_values_model.specs.Val.{Val}
use Rattle.template_values_core.specs.Shape.{pairs_in}
use Rattle.template_machine_meaning.specs.Modules.{public_locals}
use Rattle.template_machine_frames.specs.declared.local.Local.{Local}
use Rattle.template_machine_frames.specs.Locals.{locals_of}
use Rattle.template_machine_frames.proofs.Public.{public_behind}
use Rattle.template_machine_frames.proofs.Named.{where_stored}
use Rattle.template_machine_frames.proofs.locals.Locals.add_public.Goals as goal

pub returns-clause-added : goal.returns-clause-added
returns-clause-added c =
    where_stored c.add_public-2.result _ _
    (λ second.
    let old = pairs_in c.args.entries.now.items in
    public_behind (locals_of c.self.inside.few.items) c.self.inside.further old (pairs_in c.add_public.new.entries.items) (pairs_in c.add_public-2.new.entries.items)
    (c.in_ok-add_public.ensures.added ∙ ap (λ (ls : List Local). old ++ public_locals (locals_of ls)) c.as_slice.ensures.value)
    second
    ∙ ap (λ (xs : List (List ℕ × Val)). old ++ public_locals xs) c.self.view_is)
    c.add_public-2.ensures.added
