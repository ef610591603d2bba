-- How lists compare whose items do.
use Rattle.std.proofs.Common.{◌≡◌, ◌∙◌, List, [], ◌∷◌, Bool, ◌&&◌, Less, Equal, Greater, refl, ap}
use Rattle.std.specs.declared.cmp.Ordering.{Ordering}
use Rattle.std.specs.Cmp.Lexicographic.{pointwise}
use Rattle.std.specs.Ordering.{eq_by_cmp, is_eq, ordering_then}
use Rattle.template_values_model.specs.Val.{Val, list, vals_of}
use Rattle.template_values_core.specs.Order.{key_cmp, val_cmp, vals_key}

then_end : (o : Ordering) → is_eq o ≡ is_eq (ordering_then o Equal)
then_end Less = refl
then_end Equal = refl
then_end Greater = refl

both : (p q : Ordering) → (is_eq p && is_eq q) ≡ is_eq (ordering_then p q)
both Less q = refl
both Equal q = refl
both Greater q = refl

item_by_item : (vs ws : List Val) → pointwise (eq_by_cmp val_cmp) vs ws ≡ is_eq (key_cmp (vals_key (vals_of vs)) (vals_key (vals_of ws)))
item_by_item [] [] = refl
item_by_item [] (w ∷ ws) = refl
item_by_item (v ∷ vs) [] = refl
item_by_item (v ∷ vs) (w ∷ ws) =
    ap (λ (b : Bool). is_eq (val_cmp v w) && b) (item_by_item vs ws)
    ∙ both (val_cmp v w) (key_cmp (vals_key (vals_of vs)) (vals_key (vals_of ws)))

-- lists are equal where their items are
pub lists_alike : (vs ws : List Val) → pointwise (eq_by_cmp val_cmp) vs ws ≡ eq_by_cmp val_cmp (list (vals_of vs)) (list (vals_of ws))
lists_alike vs ws = item_by_item vs ws ∙ then_end (key_cmp (vals_key (vals_of vs)) (vals_key (vals_of ws)))
