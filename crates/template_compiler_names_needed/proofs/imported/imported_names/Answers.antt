use Rattle.std.proofs.Common.{◌<◌, ◌≤◌, length, false, ◌||◌, arith, sym, ap, ◌∙◌}
use Rattle.template_compiler_tree_parts.specs.Listed.{statements_in}
use Rattle.template_compiler_tree_parts.specs.Within.{joined}
use Rattle.template_compiler_tree_parts.proofs.Picked.{all_done, one_more}
use Rattle.template_compiler_names.specs.Among.{is_among}
use Rattle.template_compiler_names.proofs.Laws.{or_assoc, or_false}
use Rattle.template_compiler_names_needed.specs.Needed.{own_imports}
use Rattle.template_compiler_names_needed.proofs.Taking.{imports_said}
use Rattle.template_compiler_names_needed.proofs.imported.imported_names.Goals as goal

pub loop-i-preserved : goal.loop-i-preserved
loop-i-preserved c =
    let found = c.in_ok-statements.statements.items in
    let counted = c.len-i-end.ensures in
    let within : c.loop-i.i < length found = omega (arith, counted, c.in_ok-statements.statements.ok.0) in
    λ q. one_more false ◌||◌ (λ x y z. sym (or_assoc x y z)) or_false (λ s. own_imports s q) (is_among c.loop-i.names.items q)
    (is_among c.take_imports.new.names.items q) found c.loop-i.i c.index.result.now within c.index.ensures (c.in_ok-take_imports.ensures q)
    (c.loop-i.invariant q)

pub returns : goal.returns
returns c =
    let found = c.in_ok-statements.statements.items in
    let counted = c.len-i-end.ensures in
    let past : length found ≤ c.loop-i.i = omega (arith, counted, c.in_ok-statements.statements.ok.0) in
    λ q. all_done false ◌||◌ (λ x y z. sym (or_assoc x y z)) or_false (λ s. own_imports s q) (is_among c.loop-i.names.items q) found c.loop-i.i past
    (c.loop-i.invariant q) ∙
    ap (joined false ◌||◌ (λ s. own_imports s q)) c.in_ok-statements.ensures ∙ imports_said q (statements_in c.args.body.now)
