-- Texts without another at an end.
use Rattle.std.specs.Prelude.{ℕ, ◌-◌, ◌==◌, List, [], ◌∷◌, length, take, drop, codes, Ok, if◌then◌else◌}
use Rattle.std.specs.List.{starts_with, ends_with}
use Rattle.template_values_model.specs.Val.{Val, text}
use Rattle.template_builtins_arguments.specs.Answers.{Made, then as after}
use Rattle.template_builtins_pieces.specs.Reading.{placed, plain_text, text_argument}

-- without the text at its start, or at its end, if it stands there
abbrev pub without_prefix : List ℕ → List ℕ → List ℕ
without_prefix prefix s = if starts_with (λ a b. a == b) s prefix then drop (length prefix) s else s

abbrev pub without_suffix : List ℕ → List ℕ → List ℕ
without_suffix suffix s = if ends_with (λ a b. a == b) s suffix then take (length s - length suffix) s else s

abbrev pub remove_prefix : Val → List Val → Made
remove_prefix v vs =
    after (placed (codes "prefix" ∷ []) 1 vs) (λ given.
    after (plain_text v) (λ s.
    after (text_argument (given 0)) (λ prefix.
    Ok (text (without_prefix prefix s)))))

abbrev pub remove_suffix : Val → List Val → Made
remove_suffix v vs =
    after (placed (codes "suffix" ∷ []) 1 vs) (λ given.
    after (plain_text v) (λ s.
    after (text_argument (given 0)) (λ suffix.
    Ok (text (without_suffix suffix s)))))
