-- Which names the keys of entries are.
use Rattle.std.proofs.Common.{◌≡◌, ℕ, Bool, true, false, List, [], ◌∷◌, refl, ap, ◌∙◌}
use Rattle.std.specs.Prelude.{Option, Some, if◌then◌else◌, is_some, ◌||◌}
use Rattle.std.specs.List.{list_any}
use Rattle.template_values_model.specs.Val.{Val}
use Rattle.template_values_model.specs.Lookup.{is_text, entry_at}
use Rattle.template_values_core.specs.Maps.{pairs_of}
use Rattle.template_values_core.specs.Shape.{pairs_in}
use Rattle.template_values_core.specs.declared.value.Entry.{Entry}

-- some entry's key is this text
abbrev pub is_named : List ℕ → List Entry → Bool
is_named q es = list_any (λ (e : Entry). is_text q e.key) es

here_or_later : (b : Bool) (v : Val) (o : Option Val) → (b || is_some o) ≡ is_some (if b then Some v else o)
here_or_later true v o = refl
here_or_later false v o = refl

-- a key is this text exactly where there is a value under it
pub named_found : (q : List ℕ) (es : List Entry) → is_named q es ≡ is_some (entry_at q (pairs_of (pairs_in es)))
named_found q [] = refl
named_found q (e ∷ es) =
    ap (λ b. is_text q e.key || b) (named_found q es) ∙ here_or_later (is_text q e.key) e.value (entry_at q (pairs_of (pairs_in es)))
