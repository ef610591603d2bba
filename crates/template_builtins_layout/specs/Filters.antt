-- What the filters on the layout of texts make of a value and the arguments after it.
use Rattle.std.specs.Prelude.{ℕ, ℤ, pos, Bool, true, false, List, [], ◌∷◌, Option, Result, Ok, codes}
use Rattle.template_values_errors.specs.declared.ErrorKind.{ErrorKind}
use Rattle.template_values_model.specs.Val as value
use Rattle.template_values_model.specs.Val.{Val}
use Rattle.template_callables.specs.Callables.{View}
use Rattle.template_builtins_arguments.specs.Answers.{Made, then}
use Rattle.template_builtins_arguments.specs.Arguments.{arguments, flag_from, number_from, text_from}
use Rattle.template_builtins_arguments.specs.Parts.{text_of}
use Rattle.template_builtins_arguments.specs.Texts.{is_safe, text_made}
use Rattle.template_builtins_layout.specs.Reading.{lone_text, width_of}
use Rattle.template_builtins_layout.specs.Putting.{makes_both_safe}
use Rattle.template_builtins_layout.specs.Words.{word_count}
use Rattle.template_builtins_layout.specs.Centers.{centered}
use Rattle.template_builtins_layout.specs.Truncating.{leeway_from, length_from, truncated}
use Rattle.template_builtins_layout.specs.Stripping.{stripped}
use Rattle.template_builtins_layout.specs.Wrapping.{wrapped_text}
use Rattle.template_builtins_layout.specs.declared.filter.LayoutFilter.{LayoutFilter}
use Rattle.template_builtins_layout.specs.declared.filter.LayoutFilter.TheVariants.{WordCount, Center, Truncate, StripTags, WordWrap}

abbrev pub count_words : View → Val → List Val → Made
count_words view v vs = then (lone_text view v vs) (λ s. Ok (value.int (pos (word_count s))))

-- a text in the middle of a width, safe where it is
abbrev pub center_given : Val → (ℕ → Option Val) → List ℕ → Made
center_given v given s = then (width_of (given 0) (pos 80)) (λ width. Ok (text_made (is_safe v) (centered width s)))

abbrev pub center : View → Val → List Val → Made
center view v vs =
    then (arguments (codes "width" ∷ []) 0 vs) (λ given.
    then (text_of view v) (λ s. center_given v given s))

-- a text cut off at a length, with an end
abbrev pub truncate_before : View → Val → (ℕ → Option Val) → List ℕ → ℤ → Bool → List ℕ → Made
truncate_before view v given s length killwords end =
    then (length_from length end) (λ n.
    then (number_from (given 3) (pos 5)) (λ spare.
    then (leeway_from spare) (λ leeway.
    Ok (truncated view v (given 2) s n killwords end leeway))))

-- what stands at the end of a text that is cut off
unfoldable pub end_of : View → (ℕ → Option Val) → Result (List ℕ) ErrorKind
end_of view given = text_from view (given 2) (codes "...")

abbrev pub truncate_words : View → Val → (ℕ → Option Val) → List ℕ → ℤ → Bool → Made
truncate_words view v given s length killwords =
    then (end_of view given) (λ end. truncate_before view v given s length killwords end)

abbrev pub truncate_to : View → Val → (ℕ → Option Val) → List ℕ → ℤ → Made
truncate_to view v given s length =
    then (flag_from view (given 1) false) (λ killwords. truncate_words view v given s length killwords)

abbrev pub truncate_given : View → Val → (ℕ → Option Val) → List ℕ → Made
truncate_given view v given s = then (number_from (given 0) (pos 255)) (λ length. truncate_to view v given s length)

abbrev pub truncate : View → Val → List Val → Made
truncate view v vs =
    then (arguments (codes "length" ∷ codes "killwords" ∷ codes "end" ∷ codes "leeway" ∷ []) 0 vs) (λ given.
    then (text_of view v) (λ s. truncate_given view v given s))

-- a plain text without tags
abbrev pub strip_tags : View → Val → List Val → Made
strip_tags view v vs = then (lone_text view v vs) (λ s. Ok (value.text (stripped s)))

-- what stands between the lines of a text
unfoldable pub wrapstring_of : View → (ℕ → Option Val) → Result (List ℕ) ErrorKind
wrapstring_of view given = text_from view (given 2) (codes "\n")

-- a text broken into lines of a width
abbrev pub wrap_by : View → Val → (ℕ → Option Val) → List ℕ → ℕ → Bool → Made
wrap_by view v given s width cuts =
    then (wrapstring_of view given) (λ wrap. Ok (wrapped_text (makes_both_safe view v (given 2)) v (given 2) s width cuts wrap))

abbrev pub wrap_at : View → Val → (ℕ → Option Val) → List ℕ → ℕ → Made
wrap_at view v given s width = then (flag_from view (given 1) true) (λ cuts. wrap_by view v given s width cuts)

abbrev pub wrap_given : View → Val → (ℕ → Option Val) → List ℕ → Made
wrap_given view v given s = then (width_of (given 0) (pos 79)) (λ width. wrap_at view v given s width)

abbrev pub word_wrap : View → Val → List Val → Made
word_wrap view v vs =
    then (arguments (codes "width" ∷ codes "break_long_words" ∷ codes "wrapstring" ∷ []) 0 vs) (λ given.
    then (text_of view v) (λ s. wrap_given view v given s))

abbrev pub layout_filtered : LayoutFilter → View → Val → List Val → Made
layout_filtered WordCount view v vs = count_words view v vs
layout_filtered Center view v vs = center view v vs
layout_filtered Truncate view v vs = truncate view v vs
layout_filtered StripTags view v vs = strip_tags view v vs
layout_filtered WordWrap view v vs = word_wrap view v vs
