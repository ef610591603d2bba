use Rattle.std.proofs.Common.{Some, sym, ◌∙◌}
use Rattle.std.proofs.lemmas.Bool.{false≢true}
use Rattle.template_compiler_syntax.proofs.NextStart.{nearer_at, nearer_first, nearer_other}
use Rattle.template_compiler_syntax.proofs.starts.nearer.Goals as goal

pub returns-else-stays_nearest : goal.returns-else-stays_nearest
returns-else-stays_nearest c =
    nearer_at c.args.syntax.now c.args.kind (Some (c.in-At.place, c.args.kind)) c.in-Some.is c.in-At.is
    (nearer_other c.args.syntax.now c.in-Some.nearest_place c.in-At.place c.in-Some.nearest_kind c.args.kind
    (λ stays. false≢true (sym c.if-stays_nearest.false ∙ c.stays_nearest.ensures.1 stays)))

pub returns-in-None : goal.returns-in-None
returns-in-None c = nearer_at c.args.syntax.now c.args.kind (Some (c.in-At.place, c.args.kind)) c.in-None.is c.in-At.is (nearer_first c.args.syntax.now c.in-At.place c.args.kind)
