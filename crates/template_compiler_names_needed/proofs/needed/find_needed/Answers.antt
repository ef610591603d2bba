use Rattle.std.proofs.Common.{ℕ, List, Bor, ap, ◌∙◌}
use Rattle.template_compiler_tree_parts.specs.Listed.{statements_in}
use Rattle.template_compiler_names.specs.Among.{is_among}
use Rattle.template_compiler_names_needed.proofs.Telling.{all_needed}
use Rattle.template_compiler_names_needed.proofs.needed.find_needed.Goals as goal

pub returns : goal.returns
returns c =
    let tree = statements_in c.args.body.now in
    all_needed tree c.in_ok-names.names c.add_each.new.names c.deref.result.now c.in_ok-names.ensures
    (λ q. ap (λ (ns : List (Bor (List ℕ))). is_among ns q) c.deref.ensures.value ∙ c.in_ok-imported.ensures q) c.in_ok-add_each.ensures
