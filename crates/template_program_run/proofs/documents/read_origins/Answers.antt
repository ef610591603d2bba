use Rattle.std.proofs.Common.{List, Some, map, subst, sym, take, ◌+◌}
use Rattle.template_program_run.specs.Held.{held_as, origin_in}
use Rattle.template_program_run.specs.Origins.{AreFrom, IsFrom}
use Rattle.template_program_run.specs.declared.documents.HeldDocument.{HeldDocument}
use Rattle.template_program_run.proofs.Piping.{one_more}
use Rattle.template_program_run.proofs.documents.read_origins.Goals as goal

pub loop-origin-preserved : goal.loop-origin-preserved
loop-origin-preserved g c = λ piped.
    let content = g.R.FileSystem.content c.args.rt.now in
    subst (λ (held : List HeldDocument). AreFrom content (Some piped) (map origin_in (take (c.loop-origin.origin-index + 1) c.args.origins.now))
    (map (held_as piped) held)) (sym {A = List HeldDocument} c.in_ok-push.ensures.items)
    (one_more (IsFrom content (Some piped)) origin_in (held_as piped) c.args.origins.now c.loop-origin.origin-index _ c.loop-origin.documents.items
    c.in_ok-read_origin.field-0 c.loop-origin-test.true (c.loop-origin.invariant piped) (c.in_ok-read_origin.ensures.read piped))
