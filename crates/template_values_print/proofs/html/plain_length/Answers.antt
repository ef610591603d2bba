use Rattle.std.proofs.Common.{◌≡◌, ℕ, arith, subst, sym, take}
use Rattle.std.specs.List.{prefix_len}
use Rattle.template_values_forms.specs.Escapes.{html, html_byte}
use Rattle.template_values_print.specs.Runs.{stands}
use Rattle.template_values_print.specs.declared.runs.Stops.TheVariants.{Markup}
use Rattle.template_values_print.proofs.RunLemmas.{markup_stands, run_stands}
use Rattle.template_values_print.proofs.html.plain_length.Goals as goal

pub returns-clause-plain : goal.returns-clause-plain
returns-clause-plain c =
    let place : c.run_end.result ≡ prefix_len (stands Markup) c.args.piece.now = omega (arith, c.run_end.ensures.value) in
    subst (λ (n : ℕ). html (take n c.args.piece.now) ≡ take n c.args.piece.now) (sym place) (run_stands (stands Markup) html_byte markup_stands c.args.piece.now)
