-- Lemmas on texts with letters in another case.
use Rattle.std.proofs.Common.{◌≡◌, ℕ, Bool, true, false, List, [], ◌++◌, length, chars, encode_utf8, encode_utf8_all, IsUtf8, Ok, refl, ap, ◌∙◌}
use Rattle.std.proofs.lemmas.Str.{chars_past_char, chars-nil, encodes-append}
use Rattle.std.proofs.lemmas.List.{nil_from_length}
use Rattle.template_values_model.specs.Val.{text}
use Rattle.template_callables.specs.Callables.{View}
use Rattle.template_builtins_arguments.specs.Answers.{then as after}
use Rattle.template_builtins_arguments.specs.Parts.{is_half_strict, unless_forbidden}
use Rattle.template_builtins_texts.specs.Cases.{capitalized, title_char}
use Rattle.template_builtins_texts.specs.Filters.{text_filtered}
use Rattle.template_builtins_texts.specs.declared.filter.TextFilter.TheVariants as filters
use Rattle.template_builtins_methods.specs.Cases.{begins_behind, swapped, swapped_char, titled_from}

pub titled_empty : (begins : Bool) (s : List ℕ) → length s ≡ 0 → titled_from begins s ≡ []
unfolding titled_from
titled_empty begins s none = rw (ap chars (nil_from_length s none) ∙ chars-nil)

pub titled_step : (begins : Bool) (s rest : List ℕ) (c : ℕ) → IsUtf8 s → s ≡ encode_utf8 c ++ rest
    → titled_from begins s ≡ encode_utf8_all (title_char begins c) ++ titled_from (begins_behind c) rest
unfolding titled_from
titled_step begins s rest c utf8 parts = rw (chars_past_char s rest c utf8 parts, encodes-append)

pub swapped_empty : (s : List ℕ) → length s ≡ 0 → swapped s ≡ []
unfolding swapped
swapped_empty s none = rw (ap chars (nil_from_length s none) ∙ chars-nil)

pub swapped_step : (s rest : List ℕ) (c : ℕ) → IsUtf8 s → s ≡ encode_utf8 c ++ rest → swapped s ≡ encode_utf8_all (swapped_char c) ++ swapped rest
unfolding swapped
swapped_step s rest c utf8 parts = rw (chars_past_char s rest c utf8 parts, encodes-append)

-- what the filter makes of a plain text
pub capitalized_plain : (view : View) (s : List ℕ) → text_filtered filters.Capitalize view (text s) [] ≡ Ok (text (capitalized s))
capitalized_plain view s =
    elim (is_half_strict view.undefined)
    as (λ (forbids : Bool). after (unless_forbidden forbids (text s) (Ok s)) (λ t. Ok (text (capitalized t))) ≡ Ok (text (capitalized s)))
    [ true ↦ refl | false ↦ refl ]
