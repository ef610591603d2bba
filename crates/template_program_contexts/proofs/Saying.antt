-- What entries say, where entries are put behind them.
use Rattle.std.proofs.Common.{◌≡◌, ℕ, List, [], ◌∷◌, ◌++◌, Option, None, Some, refl, sym, ap, ◌∙◌, if◌then◌else◌}
use Rattle.std.specs.Option.{option_or}
use Rattle.std.specs.Str.{bytes_eq}
use Rattle.template_values_model.specs.Val.{Val, text}
use Rattle.template_values_model.specs.Lookup.{is_text}
use Rattle.template_values_core.specs.Maps.{last_at}
use Rattle.template_values_core.specs.Shape.{pairs_in}
use Rattle.template_values_core.specs.declared.value.Entry.{Entry}
use Rattle.template_values_json.specs.Entries.{ArePlain}
use Rattle.template_values_json.proofs.Last.{option_or_assoc, or_none, last_at-push}
use Rattle.template_program_contexts.specs.Entries.{Say}

-- what is left says, and else the entries so far, is what is to be said
abbrev pub LeftSay : (List ℕ → Option Val) → List Entry → (List ℕ → Option Val) → Type 0
LeftSay left entries all = (name : List ℕ) → option_or (left name) (last_at name (pairs_in entries)) ≡ all name

pub last_at-append : (es fs : List Entry) (name : List ℕ)
    → last_at name (pairs_in (es ++ fs)) ≡ option_or (last_at name (pairs_in fs)) (last_at name (pairs_in es))
last_at-append [] fs name = sym (or_none _)
last_at-append (e ∷ es) fs name =
    let here = if is_text name e.key then Some e.value else None in
    ap (λ found. option_or found here) (last_at-append es fs name) ∙ option_or_assoc (last_at name (pairs_in fs)) (last_at name (pairs_in es)) here

pub plain_append : (es fs : List Entry) → ArePlain es → ArePlain fs → ArePlain (es ++ fs)
plain_append [] fs h k = k
plain_append (e ∷ es) fs h k = (h.0, h.1, plain_append es fs h.2 k)

-- entries are put behind those so far
pub left_append : (left this all : List ℕ → Option Val) (es fs : List Entry) → Say this fs
    → LeftSay (λ name. option_or (left name) (this name)) es all → LeftSay left (es ++ fs) all
left_append left this all es fs says h =
    λ name. ap (option_or (left name)) (last_at-append es fs name ∙ ap (λ found. option_or found (last_at name (pairs_in es))) (says name))
    ∙ sym (option_or_assoc (left name) (this name) (last_at name (pairs_in es)))
    ∙ h name

-- one entry is put behind those so far, under the name of its key
pub left_push : (left all : List ℕ → Option Val) (es : List Entry) (e : Entry) (key : List ℕ) (value : Val) → e.key ≡ text key → e.value ≡ value
    → LeftSay (λ name. option_or (left name) (if bytes_eq key name then Some value else None)) es all → LeftSay left (es ++ e ∷ []) all
left_push left all es e key value is_key is_value h =
    λ name. ap (option_or (left name)) (last_at-push es e name ∙ rw (is_key, is_value) refl)
    ∙ sym (option_or_assoc (left name) (if bytes_eq key name then Some value else None) (last_at name (pairs_in es)))
    ∙ h name
