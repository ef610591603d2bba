use Rattle.std.proofs.Common.{rules}
use Rattle.template_compiler_sources.specs.contracts.scoped.fn.forget_scoped.retain as closure
use Rattle.template_compiler_sources.proofs.LeftOut.{unscoped_stay}
use Rattle.template_compiler_sources.proofs.scoped.forget_scoped.Goals as goal

pub returns : goal.returns
returns c =
    unscoped_stay _ (λ p. (closure.captures p).head) (λ p t b q k. (search rules, search rules)) _ _ _ c.retain.ensures.filtered
