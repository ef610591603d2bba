-- Texts split into lists.
use Rattle.std.specs.Prelude.{ℕ, ◌==◌, negsuc, Bool, false, List, [], ◌∷◌, length, codes, Option, None, Some, Ok, if◌then◌else◌}
use Rattle.std.specs.Str.Lines as str_lines
use Rattle.template_values_model.specs.Val as value
use Rattle.template_values_model.specs.Val.{Val}
use Rattle.template_callables.specs.Callables.{View}
use Rattle.template_builtins_arguments.specs.Answers.{Made, then as after, refused}
use Rattle.template_builtins_arguments.specs.Arguments.{arguments, number_from}
use Rattle.template_builtins_arguments.specs.Parts.{text_of}
use Rattle.template_builtins_arguments.specs.Texts.{is_safe}
use Rattle.template_builtins_texts.specs.Lists.{text_list}
use Rattle.template_builtins_texts.specs.Replacing.{parts_between, places_up_to}
use Rattle.template_builtins_pieces.specs.Cuts.{last_parts}
use Rattle.template_builtins_pieces.specs.Reading.{placed, plain_text}
use Rattle.template_builtins_pieces.specs.Words.{words, last_words}
use Rattle.template_builtins_pieces.specs.declared.splitting.Side.{Side}
use Rattle.template_builtins_pieces.specs.declared.splitting.Side.TheVariants.{Left, Right}

-- the words, cut from the start or from the back
abbrev pub words_cut : Side → ℕ → List ℕ → List (List ℕ)
words_cut Left = words
words_cut Right = last_words

-- the parts between separators
abbrev pub parts_cut : Side → List ℕ → ℕ → List ℕ → List (List ℕ)
parts_cut Left = parts_between
parts_cut Right = last_parts

-- a list of the words, with so many cuts at most: below 0 there is no limit
abbrev pub split_words : Side → Bool → List ℕ → Option Val → Made
split_words side safe s count =
    after (number_from count (negsuc 0)) (λ n. Ok (text_list safe (words_cut side (places_up_to (Some n) s) s)))

-- a list of the parts between separators
abbrev pub split_parts : Side → Bool → List ℕ → List ℕ → Option Val → Made
split_parts side safe s separator count =
    after (number_from count (negsuc 0)) (λ n. Ok (text_list safe (parts_cut side separator (places_up_to (Some n) s) s)))

-- an empty separator stands nowhere
abbrev pub split_at : Side → Bool → List ℕ → Option Val → List ℕ → Made
split_at side safe s count separator = if length separator == 0 then refused else split_parts side safe s separator count

-- the filter's separator is a printed form
abbrev pub split_printed : View → Bool → List ℕ → Option Val → Option Val → Made
split_printed view safe s count None = split_words Left safe s count
split_printed view safe s count (Some value.none) = split_words Left safe s count
split_printed view safe s count (Some v) = after (text_of view v) (λ separator. split_at Left safe s count separator)

abbrev pub split_filter : View → Val → List Val → Made
split_filter view v vs =
    after (arguments (codes "sep" ∷ codes "maxsplit" ∷ []) 0 vs) (λ given.
    after (text_of view v) (λ s. split_printed view (is_safe v) s (given 1) (given 0)))

-- the methods' separator is a text
abbrev pub split_plain : Side → List ℕ → Option Val → Option Val → Made
split_plain side s count None = split_words side false s count
split_plain side s count (Some value.none) = split_words side false s count
split_plain side s count (Some v) = after (plain_text v) (λ separator. split_at side false s count separator)

abbrev pub split_method : Side → Val → List Val → Made
split_method side v vs =
    after (arguments (codes "sep" ∷ codes "maxsplit" ∷ []) 0 vs) (λ given.
    after (plain_text v) (λ s. split_plain side s (given 1) (given 0)))

abbrev pub split_lines : Val → List Val → Made
split_lines v vs =
    after (placed [] 0 vs) (λ given. after (plain_text v) (λ s. Ok (text_list false (str_lines.lines s))))
