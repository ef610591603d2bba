-- The last entry under a name, where entries are pushed.
use Rattle.std.proofs.Common.{◌≡◌, ℕ, List, [], ◌∷◌, ◌++◌, Option, None, Some, refl, sym, ap, ◌∙◌, if◌then◌else◌}
use Rattle.std.specs.Option.{option_or}
use Rattle.template_values_model.specs.Lookup.{is_text}
use Rattle.template_values_core.specs.Maps.{last_at}
use Rattle.template_values_core.specs.Shape.{pairs_in}
use Rattle.template_values_core.specs.declared.value.Entry.{Entry}

pub option_or_assoc : {T : Type 0} (a b c : Option T) → option_or (option_or a b) c ≡ option_or a (option_or b c)
option_or_assoc None b c = refl
option_or_assoc (Some x) b c = refl

pub or_none : {T : Type 0} (a : Option T) → option_or a None ≡ a
or_none None = refl
or_none (Some x) = refl

pub last_at-push : (es : List Entry) (e : Entry) (name : List ℕ)
    → last_at name (pairs_in (es ++ e ∷ [])) ≡ option_or (if is_text name e.key then Some e.value else None) (last_at name (pairs_in es))
last_at-push [] e name = sym (or_none _)
last_at-push (first ∷ es) e name =
    let here = if is_text name first.key then Some first.value else None in
    let pushed = if is_text name e.key then Some e.value else None in
    ap (λ found. option_or found here) (last_at-push es e name) ∙ option_or_assoc pushed (last_at name (pairs_in es)) here
