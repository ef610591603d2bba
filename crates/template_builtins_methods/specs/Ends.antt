-- What texts begin and end with.
use Rattle.std.specs.Prelude.{ℕ, Bool, false, nat_eq, is_some, if◌then◌else◌, List, Option, None, Some, Result, Ok}
use Rattle.std.specs.List.{starts_with, ends_with, list_any, list_all}
use Rattle.template_values_errors.specs.declared.ErrorKind.{ErrorKind}
use Rattle.template_values_model.specs.Val.{Val, tuple, truth, items_of}
use Rattle.template_values_core.specs.Answers.{text_in}
use Rattle.template_builtins_arguments.specs.Answers.{Made, then as after, refused}
use Rattle.template_builtins_methods.specs.Placed.{the_argument}
use Rattle.template_builtins_methods.specs.Reading.{text_held}
use Rattle.template_builtins_methods.specs.declared.ends.End.{End}
use Rattle.template_builtins_methods.specs.declared.ends.End.TheVariants.{Front, Back}

-- the part is what the text begins with, or ends with
abbrev pub stands_at : End → List ℕ → List ℕ → Bool
stands_at Front s part = starts_with nat_eq s part
stands_at Back s part = ends_with nat_eq s part

abbrev pub is_a_text : Val → Bool
is_a_text v = is_some (text_in v)

abbrev pub text_stands : End → List ℕ → Option (List ℕ) → Bool
text_stands end s None = false
text_stands end s (Some part) = stands_at end s part

-- one of some texts does
abbrev pub one_stands : End → List ℕ → List Val → Result Bool ErrorKind
one_stands end s parts = if list_all is_a_text parts then Ok (list_any (λ v. text_stands end s (text_in v)) parts) else refused

-- a text, or one of a tuple of texts
abbrev pub given_stands : End → List ℕ → Val → Result Bool ErrorKind
given_stands end s (tuple vs) = one_stands end s (items_of vs)
given_stands end s v = after (text_held v) (λ part. Ok (stands_at end s part))

unfoldable pub stands : End → Val → List Val → Made
stands end v vs =
    after (the_argument vs) (λ part.
    after (text_held v) (λ s.
    after (given_stands end s part) (λ b. Ok (truth b))))
