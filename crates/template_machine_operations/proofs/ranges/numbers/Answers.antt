use Rattle.std.proofs.Common.{◌≡◌, List, Ok, ap, subst, ◌∙◌, arith, rules, to_z, of_z}
use Rattle.std.specs.Int.{w64}
use Rattle.std.specs.Int.RustNames.{FitsSigned}
use Rattle.std.proofs.lemmas.Int.{to_z-of_z}
use Rattle.template_values_model.specs.Val.{Val, list, vals_of}
use Rattle.template_values_operators.specs.Kinds.{list_made}
use Rattle.template_machine_meaning.specs.Functions.{numbers_from}
use Rattle.template_machine_meaning.specs.Replies.{kinded}
use Rattle.template_machine_operations.specs.Answers.{Answers}
use Rattle.template_machine_operations.proofs.Ranging.{numbers_made}
use Rattle.template_machine_operations.proofs.ranges.numbers.Goals as goal

pub returns : goal.returns
returns c =
    let end : c.loop-round.round ≡ c.args.count = omega arith in
    let start_fits : FitsSigned w64 c.args.start = search rules in
    let step_fits : FitsSigned w64 c.args.step = search rules in
    let start : to_z w64 (of_z w64 c.args.start) ≡ c.args.start = to_z-of_z w64 c.args.start start_fits in
    let step : to_z w64 (of_z w64 c.args.step) ≡ c.args.step = to_z-of_z w64 c.args.step step_fits in
    let listed : kinded (list_made c.loop-round.numbers.items) ≡ Ok (list (vals_of (numbers_from c.args.start c.args.step c.args.count))) =
    ap (λ (vs : List Val). kinded (list_made vs)) (c.loop-round.invariant ∙ (λ i. numbers_from (start i) (step i) (end i)))
    ∙ ap kinded (numbers_made c.args.start c.args.step c.args.count) in
    subst (Answers c.build_list.result) listed c.build_list.ensures
