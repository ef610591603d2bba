-- What a value that is no record has, whatever its content.
use Rattle.std.proofs.Common.{◌≡◌, ℕ, List, Ok, refl, unwrap_or}
use Rattle.template_values_model.specs.Val.{Val, undefined}
use Rattle.template_values_model.specs.Lookup.{value_at}
use Rattle.template_values_core.specs.Content.{value_of}
use Rattle.template_values_core.specs.declared.content.Content.{Content}
use Rattle.template_values_core.specs.declared.content.Content.TheVariants.{Namespace, Loop, Macro}
use Rattle.template_values_forms.specs.Known.{Known}
use Rattle.template_values_operators.specs.Items.{attribute_of, held_item, item_of}

pub plain_attribute : (known : Known) (content : Content) (name : List ℕ)
    → ((id number : ℕ) → content ≡ Namespace id number → ⊥) → ((id number : ℕ) → content ≡ Loop id number → ⊥)
    → ((id number : ℕ) → content ≡ Macro id number → ⊥)
    → attribute_of known (value_of content) name ≡ Ok (unwrap_or (value_at name (value_of content)) undefined)
plain_attribute known (Namespace id number) name no-namespace no-loop no-macro = absurd (no-namespace id number refl)
plain_attribute known (Loop id number) name no-namespace no-loop no-macro = absurd (no-loop id number refl)
plain_attribute known (Macro id number) name no-namespace no-loop no-macro = absurd (no-macro id number refl)
plain_attribute known _ name no-namespace no-loop no-macro = refl

pub plain_item : (known : Known) (content : Content) (key : Val)
    → ((id number : ℕ) → content ≡ Namespace id number → ⊥) → ((id number : ℕ) → content ≡ Loop id number → ⊥)
    → ((id number : ℕ) → content ≡ Macro id number → ⊥)
    → item_of known (value_of content) key ≡ Ok (held_item (value_of content) key)
plain_item known (Namespace id number) key no-namespace no-loop no-macro = absurd (no-namespace id number refl)
plain_item known (Loop id number) key no-namespace no-loop no-macro = absurd (no-loop id number refl)
plain_item known (Macro id number) key no-namespace no-loop no-macro = absurd (no-macro id number refl)
plain_item known _ key no-namespace no-loop no-macro = refl
