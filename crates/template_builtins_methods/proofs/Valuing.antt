-- The values of entries, entry by entry.
use Rattle.std.proofs.Common.{◌≡◌, ℕ, List, [], ◌∷◌, ◌++◌, ◌<◌, ◌≤◌, ◌+◌, length, drop, get_or, sym, ap, ◌∙◌, append_assoc}
use Rattle.std.proofs.lemmas.List.{at_drop_more, at_drop_all, append-nil}
use Rattle.template_values_model.specs.Val.{Val}
use Rattle.template_values_core.specs.declared.value.Entry.{Entry}
use Rattle.template_values_core.specs.Maps.{pairs_of}
use Rattle.template_values_core.specs.Shape.{pairs_in}
use Rattle.template_builtins_methods.specs.Maps.{values_of}

abbrev pub values_in : List Entry → List Val
values_in es = values_of (pairs_of (pairs_in es))

-- the next one stands before those of the entries that are left
pub values_go : (es : List Entry) (k : ℕ) (e : Entry) (front whole : List Val) → k < length es → e ≡ get_or es k e
    → front ++ values_in (drop k es) ≡ whole → (front ++ (e.value ∷ [])) ++ values_in (drop (k + 1) es) ≡ whole
values_go es k e front whole h is held =
    append_assoc front (e.value ∷ []) (values_in (drop (k + 1) es))
    ∙ ap (λ (vs : List Val). front ++ vs) (sym (at_drop_more values_in es k e h ∙ ap (λ (z : Entry). values_in (z ∷ drop (k + 1) es)) (sym is)))
    ∙ held

pub values_end : (es : List Entry) (k : ℕ) (front whole : List Val) → length es ≤ k → front ++ values_in (drop k es) ≡ whole → front ≡ whole
values_end es k front whole h held =
    sym (append-nil front) ∙ ap (λ (vs : List Val). front ++ vs) (sym (at_drop_all values_in es k h)) ∙ held
