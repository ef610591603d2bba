use Rattle.std.proofs.Common.{◌∙◌, ap, sym, [], ◌∷◌, ◌++◌, append_assoc}
use Rattle.template_program_parts.proofs.status.innermost.Goals as goal

pub loop-cause-preserved : goal.loop-cause-preserved
loop-cause-preserved c =
    let before = c.loop-cause.invariant in
    let next = c.in-Some.ensures in
    (before.0 ++ next.0 ∷ [], before.1 ∙ ap (λ kinds. before.0 ++ kinds) next.1 ∙ sym (append_assoc before.0 (next.0 ∷ []) c.in-Some.cause.now))
