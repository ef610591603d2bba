-- A text in another's places.
use Rattle.std.specs.Prelude.{ℕ, negsuc, List, [], ◌∷◌, codes, Option, Some, Ok}
use Rattle.template_values_model.specs.Val.{Val, text}
use Rattle.template_builtins_arguments.specs.Answers.{Made, then}
use Rattle.template_builtins_arguments.specs.Arguments.{number_from}
use Rattle.template_builtins_texts.specs.Replacing.{places_up_to, replaced}
use Rattle.template_builtins_pieces.specs.Reading.{placed, plain_text, text_argument}

-- each `old` by `new`, at most so often: below 0 there is no limit
abbrev pub replace_new : List ℕ → List ℕ → List ℕ → Option Val → Made
replace_new s old new count =
    then (number_from count (negsuc 0)) (λ n. Ok (text (replaced (λ t. t) old new (places_up_to (Some n) s) s)))

abbrev pub replace : Val → List Val → Made
replace v vs =
    then (placed (codes "old" ∷ codes "new" ∷ codes "count" ∷ []) 2 vs) (λ given.
    then (plain_text v) (λ s.
    then (text_argument (given 0)) (λ old.
    then (text_argument (given 1)) (λ new.
    replace_new s old new (given 2)))))
