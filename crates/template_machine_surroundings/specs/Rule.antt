-- Which escape a template's name stands for.
use Rattle.std.specs.Prelude.{◌≡◌, ◌≢◌, ℕ, ◌<◌, Bool, if◌then◌else◌, List, [], ◌∷◌, ◌++◌, ◌⊎◌, length, slice_index, codes}
use Rattle.std.specs.List.{list_any}
use Rattle.std.specs.Str.{bytes_eq}
use Rattle.template_values_errors.specs.declared.modes.AutoEscape.{AutoEscape}
use Rattle.template_values_errors.specs.declared.modes.AutoEscape.TheVariants.{None, Html, Json}
use Rattle.template_machine_surroundings.specs.declared.escape.EscapeRule.{EscapeRule}
use Rattle.template_machine_surroundings.specs.declared.escape.EscapeRule.TheVariants.{ByName, Never, Fixed}

-- the text ends otherwise
abbrev pub EndsOtherwise : List ℕ → List ℕ → Type 0
EndsOtherwise name suffix = (front : List ℕ) → name ≢ front ++ suffix

-- the name less one ending that says that it is a template
abbrev pub IsStemOf : List ℕ → List ℕ → Type 0
IsStemOf name stem =
    (name ≡ stem ++ codes ".j2") ⊎ ((name ≡ stem ++ codes ".jinja2") ⊎ ((name ≡ stem ++ codes ".jinja")
    ⊎ ((stem ≡ name) × EndsOtherwise name (codes ".j2") × EndsOtherwise name (codes ".jinja2") × EndsOtherwise name (codes ".jinja"))))

-- no dot stands in the text
abbrev pub LacksDots : List ℕ → Type 0
LacksDots text = (k : ℕ) → k < length text → slice_index text k ≢ 46

-- what follows the last dot, or the whole where there is none
abbrev pub IsExtensionOf : List ℕ → List ℕ → Type 0
IsExtensionOf stem extension =
    ((before : List ℕ) × (stem ≡ before ++ 46 ∷ extension) × LacksDots extension) ⊎ ((extension ≡ stem) × LacksDots stem)

abbrev pub is_one_of : List ℕ → List (List ℕ) → Bool
is_one_of text words = list_any (λ word. bytes_eq word text) words

abbrev pub rule_of_extension : List ℕ → AutoEscape
rule_of_extension e =
    if is_one_of e (codes "html" ∷ codes "htm" ∷ codes "xml" ∷ []) then Html
    else (if is_one_of e (codes "json" ∷ codes "json5" ∷ codes "js" ∷ codes "yaml" ∷ codes "yml" ∷ []) then Json
    else None)

-- the escape of a name
abbrev pub IsRuleOf : List ℕ → AutoEscape → Type 0
IsRuleOf name rule =
    (stem : List ℕ) × (extension : List ℕ) × IsStemOf name stem × IsExtensionOf stem extension × (rule ≡ rule_of_extension extension)

-- the escape of a name under a rule
abbrev pub IsEscapeOf : EscapeRule → List ℕ → AutoEscape → Type 0
IsEscapeOf ByName name escape = IsRuleOf name escape
IsEscapeOf Never name escape = escape ≡ None
IsEscapeOf (Fixed fixed) name escape = escape ≡ fixed
