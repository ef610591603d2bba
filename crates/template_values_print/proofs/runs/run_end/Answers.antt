use Rattle.std.proofs.Common.{ℕ, List, ◌+◌, drop, sym, ap, subst, ◌∙◌}
use Rattle.std.specs.List.{prefix_len}
use Rattle.std.specs.Str.{IsCharBoundary}
use Rattle.template_values_print.specs.Runs.{stands}
use Rattle.template_values_print.proofs.RunLemmas.{run_boundary}
use Rattle.template_values_print.proofs.runs.run_end.Goals as goal

pub returns-clause-boundary : goal.returns-clause-boundary
returns-clause-boundary c =
    let place = c.end_in.ensures.value ∙ ap (λ (s : List ℕ). c.args.from + prefix_len (stands c.args.stops) (drop c.args.from s)) c.as_bytes.ensures.value in
    subst (λ (n : ℕ). IsCharBoundary c.args.text.now n) (sym place) (run_boundary c.args.stops c.args.text.now c.args.from c.requires)
