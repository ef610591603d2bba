use Rattle.std.proofs.Common.{◌≡◌, List, Option, ap, subst, sym, ◌∙◌}
use Rattle.template_values_model.specs.Val.{Val}
use Rattle.template_values_core.specs.Shape.{pairs_in}
use Rattle.template_compiler_walk.specs.Containers.{map_made}
use Rattle.template_machine_meaning.specs.Functions.{base_in, dict_of}
use Rattle.template_machine_meaning.specs.Replies.{kinded}
use Rattle.template_machine_operations.specs.Answers.{Answers}
use Rattle.template_machine_operations.proofs.Mapping.{base_given}
use Rattle.template_machine_operations.proofs.dicts.dict_of.Goals as goal

pub returns : goal.returns
returns c =
    let base = base_given (base_in c.args.base.now) (pairs_in c.in_ok-entries.entries.items) c.in_ok-entries.ensures in
    let whole : kinded (map_made (pairs_in c.push_copies.new.entries.items)) ≡ dict_of (base_in c.args.base.now) (pairs_in c.args.named.now) =
    ap (λ (ps : List (Val × Val)). kinded (map_made ps)) c.in_ok-push_copies.ensures.put
    ∙ ap (λ (o : Option (List (Val × Val))). dict_of o (pairs_in c.args.named.now)) (sym base) in
    subst (Answers c.build_map.result) whole c.build_map.ensures
