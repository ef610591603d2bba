use Rattle.std.proofs.Common.{◌≡◌, ℕ, List, [], ◌∷◌, map, Ok, refl, sym, ap, ◌∙◌}
use Rattle.std.proofs.lemmas.Iterator.{YieldsList-from_chars}
use Rattle.std.proofs.lemmas.Iterator.Consumers.{YieldsList-end}
use Rattle.template_values_operators.specs.Items.{character_value}
use Rattle.template_values_items.proofs.items.characters.Goals as goal

map-same : (xs : List ℕ) → map (λ (x : ℕ). x) xs ≡ xs
map-same [] = refl
map-same (x ∷ xs) = ap (λ (ys : List ℕ). x ∷ ys) (map-same xs)

pub returns : goal.returns
returns c =
    let whole = YieldsList-end
    (YieldsList-from_chars c.args.text.now c.utf8.text cc) c.loop-character.yielded _ c.loop-character.yielded_by _ _ c.in-None.is c.next.ensures.steps in
    let all = sym whole.0 ∙ map-same c.loop-character.yielded in
    ap Ok (ap (map character_value) all ∙ sym c.loop-character.invariant)
