use Rattle.std.proofs.Common.{arith, inr, refl}
use Rattle.template_callables.specs.Views.{seen_in}
use Rattle.template_builtins_web.proofs.Pairs.{two_else}
use Rattle.template_builtins_web.proofs.queries.with_two.Goals as goal
use Rattle.template_builtins_web.proofs.queries.with_two.Goals.{in_default-via-then-items-lt2, in_default-via-else-items-lt2+else-items-lt3}

pub returns-in_default : goal.returns-in_default
returns-in_default c =
    elim c.in_default.branch [
      | in_default-via-then-items-lt2 w ↦ rw (two_else (seen_in c.args.view.now) c.args.before.now c.args.items.now (λ two. absurd (grind (arith, two))), c.refusal.ensures) (inr refl)
      | in_default-via-else-items-lt2+else-items-lt3 w ↦ rw (two_else (seen_in c.args.view.now) c.args.before.now c.args.items.now (λ two. absurd (grind (arith, two))), c.refusal.ensures) (inr refl)
    ]
