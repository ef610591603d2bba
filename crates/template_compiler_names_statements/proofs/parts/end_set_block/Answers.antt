use Rattle.std.proofs.Common.{refl}
use Rattle.template_compiler_names.proofs.Laws.{goes_then_on}
use Rattle.template_compiler_names_statements.proofs.parts.end_set_block.Goals as goal

pub returns : goal.returns
returns c =
    goes_then_on _ _ c.args.names.now c.use_optional.new.names c.assign_target.new.names c.assign_target.result c.in_ok-use_optional.ensures
    c.assign_target.ensures (λ q. refl) (λ q. refl)
