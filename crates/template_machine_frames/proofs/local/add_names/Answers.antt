use Rattle.std.proofs.Common.{◌≡◌, ◌∙◌, ap, List, take}
use Rattle.std.specs.Prelude.{◌||◌}
use Rattle.std.specs.BTreeSet.{contains_text}
use Rattle.std.proofs.lemmas.List.{take_all}
use Rattle.template_machine_frames.specs.declared.local.Local.{Local}
use Rattle.template_machine_frames.proofs.Knowing.{is_local, local_found}
use Rattle.template_machine_frames.proofs.local.add_names.Goals as goal

-- the loop has gone over all locals
pub returns-clause-added : goal.returns-clause-added
returns-clause-added c = λ q.
    let all : take c.loop-local.local-index c.args.locals.now ≡ c.args.locals.now =
    take_all c.loop-local.local-index c.args.locals.now c.loop-local-test.false in
    let before = contains_text c.args.names.now q in
    c.loop-local.invariant q ∙ ap (λ (ls : List Local). before || is_local q ls) all ∙ ap (λ b. before || b) (local_found q c.args.locals.now)
