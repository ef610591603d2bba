-- What the methods of texts read. A text that they make is plain.
use Rattle.std.specs.Prelude.{ℕ, Bool, List, [], Result, Ok}
use Rattle.template_values_errors.specs.declared.ErrorKind.{ErrorKind}
use Rattle.template_values_model.specs.Val.{Val, text, truth}
use Rattle.template_values_core.specs.Answers.{text_in}
use Rattle.template_builtins_arguments.specs.Answers.{Made, then}
use Rattle.template_builtins_arguments.specs.Arguments.{arguments}
use Rattle.template_builtins_methods.specs.Placed.{or_refused, the_argument}

-- the text that a value is
abbrev pub text_held : Val → Result (List ℕ) ErrorKind
text_held v = or_refused (text_in v)

-- the text, where no argument is given
unfoldable pub lone_text : Val → List Val → Result (List ℕ) ErrorKind
lone_text v vs = then (arguments [] 0 vs) (λ given. text_held v)

-- the text and the one argument, which is a text too
unfoldable pub both_texts : Val → List Val → Result (List ℕ × List ℕ) ErrorKind
both_texts v vs =
    then (the_argument vs) (λ w.
    then (text_held v) (λ s.
    then (text_held w) (λ part. Ok (s, part))))

-- a text made of the text
abbrev pub changed : (List ℕ → List ℕ) → Val → List Val → Made
changed f v vs = then (lone_text v vs) (λ s. Ok (text (f s)))

-- whether the text is so
abbrev pub asked : (List ℕ → Bool) → Val → List Val → Made
asked p v vs = then (lone_text v vs) (λ s. Ok (truth (p s)))
