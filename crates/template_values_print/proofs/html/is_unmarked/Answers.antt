use Rattle.std.proofs.Common.{length}
use Rattle.std.proofs.lemmas.Bool.{eq-eqb, eqb-true}
use Rattle.template_values_print.proofs.UnmarkedTexts.{unmarked_exactly}
use Rattle.template_values_print.proofs.html.is_unmarked.Goals as goal

pub returns : goal.returns
returns c =
    let exact = unmarked_exactly c.args.text.now c.run_end.result c.run_end.ensures.value in
    (λ yes. exact.0 (eqb-true c.run_end.result (length c.args.text.now) yes), λ same. eq-eqb c.run_end.result (length c.args.text.now) (exact.1 same))
