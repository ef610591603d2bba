use Rattle.std.proofs.Common.{ap, ◌∙◌, List}
use Rattle.template_compiler_tree.specs.View.{expression_of}
use Rattle.template_compiler_tree_statements.specs.declared.statements.Stmt.{Stmt}
use Rattle.template_compiler_tree_parts.specs.Listed.{statements_in}
use Rattle.template_compiler_names.specs.Names.{place_within}
use Rattle.template_compiler_names.proofs.Laws.{goes_inside, goes_then, uses_as}
use Rattle.template_compiler_names_closures.specs.Units.{place_in_part, rounds}
use Rattle.template_compiler_names_closures.proofs.Rounds.{rounds_use}
use Rattle.template_compiler_names_closures.proofs.parts.use_rounds.Goals as goal

pub returns : goal.returns
returns c =
    let target = expression_of c.args.node.now.target in
    uses_as
    (λ q.
    rounds_use q target (place_within q (statements_in c.deref.result.now)) ∙
    ap (λ (ss : List Stmt). place_in_part q (rounds target (statements_in ss))) c.deref.ensures.value)
    (goes_inside c.args.names.now c.open.new.self c.use_region.new.names c.close.new.self c.in_ok-around.around c.in_ok-around.ensures
    (goes_then c.open.new.self c.store_loop.new.self c.use_region.new.names
    (goes_then c.open.new.self c.assign_target.new.names c.store_loop.new.self c.in_ok-assign_target.ensures c.in_ok-store_loop.ensures)
    c.in_ok-use_region.ensures) c.close.ensures)
