use Rattle.std.proofs.Common.{false, not, ◌&&◌, ◌||◌, codes, ap, ◌∙◌}
use Rattle.template_compiler_tree.specs.View.{expression_of, optional_in}
use Rattle.template_compiler_names.specs.Names.{is_stored_in, place_if_given, place_in_target}
use Rattle.template_compiler_names.specs.Among.{just}
use Rattle.template_compiler_names.proofs.Laws.{and_false, goes_then, goes_then_on, or_false}
use Rattle.template_compiler_names_statements.proofs.parts.begin_loop.Goals as goal

pub returns : goal.returns
returns c =
    let target = expression_of c.args.node.now.target in
    let filter = optional_in c.args.node.now.filter_expr in
    let first = goes_then c.args.names.now c.assign_target.new.names c.use_optional.new.names c.in_ok-assign_target.ensures c.in_ok-use_optional.ensures in
    goes_then_on _ _ c.args.names.now c.use_optional.new.names c.store_loop.new.self c.store_loop.result first c.store_loop.ensures
    (λ q.
    let here = place_in_target q target || not (is_stored_in q.name target) && place_if_given q filter in
    ap (λ b. here || b) (and_false (not (is_stored_in q.name target || false))) ∙ or_false here)
    (λ q. ap (λ b. b || just (codes "loop") q) (or_false (is_stored_in q target)))
