-- What the context has under a name, where definitions are pushed.
use Rattle.std.proofs.Common.{◌≡◌, ℕ, List, [], ◌∷◌, ◌++◌, Bool, true, false, Option, None, Some, option_map, refl, sym, ap, ◌∙◌, String, Global, string_bytes, if◌then◌else◌}
use Rattle.std.specs.Option.{option_or}
use Rattle.std.specs.Str.{bytes_eq}
use Rattle.template_values_model.specs.Val.{Val, text}
use Rattle.template_values_core.specs.declared.value.Entry.{Entry}
use Rattle.template_program_parts.specs.Context.{defined_under, text_pairs}
use Rattle.template_program_parts.specs.Entries.{SayContext}
use Rattle.template_values_json.proofs.Last.{option_or_assoc, or_none, last_at-push}

defined_under-push : (ds : List (String Global × String Global)) (d : String Global × String Global) (name : List ℕ)
    → defined_under (text_pairs (ds ++ d ∷ [])) name ≡ option_or (if bytes_eq (string_bytes d.0) name then Some (string_bytes d.1) else None) (defined_under (text_pairs ds) name)
defined_under-push [] d name = sym (or_none _)
defined_under-push (first ∷ ds) d name =
    let here = if bytes_eq (string_bytes first.0) name then Some (string_bytes first.1) else None in
    let pushed = if bytes_eq (string_bytes d.0) name then Some (string_bytes d.1) else None in
    ap (λ found. option_or found here) (defined_under-push ds d name) ∙ option_or_assoc pushed (defined_under (text_pairs ds) name) here

says_by : (b : Bool) (t : List ℕ) (found beneath : Option Val) (defined : Option (List ℕ)) → found ≡ option_or (option_map text defined) beneath
    → option_or (if b then Some (text t) else None) found ≡ option_or (option_map text (option_or (if b then Some t else None) defined)) beneath
says_by true t found beneath defined h = refl
says_by false t found beneath defined h = h

-- one more definition, and its entry
pub say_definition : (json : Option (List ℕ)) (ds : List (String Global × String Global)) (d : String Global × String Global) (es : List Entry) (e : Entry)
    → e.key ≡ text (string_bytes d.0) → e.value ≡ text (string_bytes d.1) → SayContext json ds es → SayContext json (ds ++ d ∷ []) (es ++ e ∷ [])
say_definition json ds d es e key value says =
    λ name. last_at-push es e name ∙ rw (key, value, defined_under-push ds d name)
    (says_by (bytes_eq (string_bytes d.0) name) (string_bytes d.1) _ _ (defined_under (text_pairs ds) name) (says name))
