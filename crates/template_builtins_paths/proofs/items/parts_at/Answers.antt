use Rattle.template_builtins_paths.specs.Items.{parts_at}
use Rattle.template_builtins_paths.proofs.items.parts_at.Goals as goal

pub returns-in-Some : goal.returns-in-Some
unfolding parts_at
returns-in-Some c = rw (c.in-Some.is, ← c.deref.ensures.value) c.each_part.ensures
