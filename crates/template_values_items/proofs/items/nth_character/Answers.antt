use Rattle.std.proofs.Common.{◌≡◌, ℕ, Option, Some, None, option_map, refl, sym, ◌∙◌}
use Rattle.std.proofs.lemmas.Iterator.{YieldsList-from_chars}
use Rattle.std.proofs.lemmas.Iterator.Consumers.{nth_from_yields_List}
use Rattle.template_values_items.proofs.items.nth_character.Goals as goal

option_map-same : (r : Option ℕ) → option_map (λ (x : ℕ). x) r ≡ r
option_map-same None = refl
option_map-same (Some x) = refl

pub returns : goal.returns
returns c =
    sym (option_map-same c.nth.result)
    ∙ nth_from_yields_List c.nth.result _ c.args.place c.nth.ensures.ran (YieldsList-from_chars c.args.text.now c.utf8.text cc)
