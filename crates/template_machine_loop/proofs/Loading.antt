-- What is kept where the blocks of a template could not all be loaded.
use Rattle.std.proofs.Common.{◌≡◌, List, Result, Ok, Err, OnErr, sym, subst}
use Rattle.template_values_errors.specs.declared.ErrorKind.{ErrorKind}
use Rattle.template_machine_meaning.specs.Keeps.{KeepsBodies, KeepsWorld}
use Rattle.template_machine_meaning.specs.World.{World}
use Rattle.template_machine_going.specs.Told.{told_by}
use Rattle.template_machine_going.specs.declared.stop.Stop.{Stop}
use Rattle.template_machine_state.proofs.Keeping.{blocks_keep}

-- blocks have the bodies that they had, and all else is as it was
kept_so : {X : Type 0} (done : Result X (List ErrorKind)) (w after : World) → OnErr done (after ≡ record w { blocks = after.blocks })
    → OnErr done (KeepsBodies w.blocks after.blocks) → OnErr (told_by done) (KeepsWorld w after)
kept_so (Ok u) w after rest bodies = tt
kept_so (Err kinds) w after rest bodies = blocks_keep w after rest bodies

pub loading_keeps : {X : Type 0} (done : Result X (List ErrorKind)) (told : Result X Stop) (w after : World) → told ≡ told_by done
    → OnErr done (after ≡ record w { blocks = after.blocks }) → OnErr done (KeepsBodies w.blocks after.blocks) → OnErr told (KeepsWorld w after)
loading_keeps {X} done told w after e rest bodies = subst (λ (r : Result X Stop). OnErr r (KeepsWorld w after)) (sym e) (kept_so done w after rest bodies)
