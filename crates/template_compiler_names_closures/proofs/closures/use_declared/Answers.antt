use Rattle.template_compiler_names_closures.proofs.Declared.{declared_uses}
use Rattle.template_compiler_names.proofs.Laws.{goes_inside, goes_then, uses_as}
use Rattle.template_compiler_names_closures.proofs.closures.use_declared.Goals as goal

pub returns : goal.returns
returns c =
    uses_as (λ q. declared_uses q c.deref.ensures.value c.deref-2.ensures.value c.deref-3.ensures.value)
    (goes_inside c.args.names.now c.open.new.self c.use_region.new.names c.close.new.self c.in_ok-around.around c.in_ok-around.ensures
    (goes_then c.open.new.self c.bind_arguments.new.names c.use_region.new.names c.in_ok-bind_arguments.ensures c.in_ok-use_region.ensures) c.close.ensures)
