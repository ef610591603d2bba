-- What Python's methods of texts read: arguments by place alone, and texts that are texts.
use Rattle.std.specs.Prelude.{ℕ, ◌-◌, Bool, true, false, if◌then◌else◌, List, length, map, slice_get, Option, None, Some, Result, Ok, Err}
use Rattle.std.specs.Borrow.{Bor}
use Rattle.template_values_errors.specs.declared.ErrorKind.{ErrorKind}
use Rattle.template_values_errors.specs.declared.ErrorKind.TheVariants.{TooManyArguments}
use Rattle.template_values_model.specs.Val.{Val, keyword_map, no_pairs, pairs_more}
use Rattle.template_values_core.specs.Answers.{text_in}
use Rattle.template_builtins_arguments.specs.Answers.{refused, then as after}
use Rattle.template_builtins_arguments.specs.Arguments.{arguments, needed_from}

-- texts behind references
abbrev pub all_shown : List (Bor (List ℕ)) → List (List ℕ)
all_shown = map (λ s. s.now)

abbrev pub has_keywords : Option Val → Bool
has_keywords None = false
has_keywords (Some (keyword_map no_pairs)) = false
has_keywords (Some (keyword_map (pairs_more k v ps))) = true
has_keywords (Some v) = false

-- arguments by place alone, the first of which have no default
abbrev pub placed : List (List ℕ) → ℕ → List Val → Result (ℕ → Option Val) ErrorKind
placed names needed vs =
    if has_keywords (slice_get vs (length vs - 1)) then Err TooManyArguments else arguments names needed vs

abbrev pub text_found : Option (List ℕ) → Result (List ℕ) ErrorKind
text_found None = refused
text_found (Some s) = Ok s

-- the text of a value that is one, safe or plain
abbrev pub plain_text : Val → Result (List ℕ) ErrorKind
plain_text v = text_found (text_in v)

-- an argument that is a text
abbrev pub text_argument : Option Val → Result (List ℕ) ErrorKind
text_argument given = after (needed_from given) plain_text
