use Rattle.std.proofs.Common.{ℕ, List, ◌∙◌, ap}
use Rattle.template_builtins_layout.proofs.putting.put_in.Goals as goal

pub returns-in-Plain-clause-made : goal.returns-in-Plain-clause-made
returns-in-Plain-clause-made c = ap (λ (g : List ℕ → List ℕ). g c.args.text.now) (rw c.in-Plain.is at c.markup_of.ensures)

pub returns-in_ok-escaped-in-Html-clause-made : goal.returns-in_ok-escaped-in-Html-clause-made
returns-in_ok-escaped-in-Html-clause-made c =
    c.in_ok-escaped-in-Html.ensures.made ∙ ap (λ (g : List ℕ → List ℕ). g c.args.text.now) (rw c.in-Html.is at c.markup_of.ensures)
