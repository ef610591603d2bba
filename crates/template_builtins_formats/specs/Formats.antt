-- Formats: texts with directives, in whose places arguments stand.
use Rattle.std.specs.Prelude.{ℕ, zero, suc, ◌==◌, Bool, List, [], ◌∷◌, ◌++◌, length, codes, nat_lt, if◌then◌else◌, Option, None, Some, Result, Ok}
use Rattle.std.specs.List.{after_first, before_first, position_or_len}
use Rattle.template_values_errors.specs.declared.ErrorKind.{ErrorKind}
use Rattle.template_values_model.specs.Val.{Val}
use Rattle.template_callables.specs.Callables.{View}
use Rattle.template_builtins_arguments.specs.Answers.{then as after, refused}
use Rattle.template_builtins_formats.specs.Directives.{directive_in}
use Rattle.template_builtins_formats.specs.Shown.{shown}
use Rattle.template_builtins_formats.specs.declared.directives.Directive.{Directive}

-- what is made of the start of a format, and the rest of it with the arguments that are left; none behind its end
pub record Piece : Type 0 where
  pub text : List ℕ
  pub left : Option (List ℕ × List Val)

abbrev pub piece : List ℕ → List ℕ → List Val → Piece
piece made s vs = record { text = made; left = Some (s, vs) }

-- the text behind the last directive, where no argument is left
abbrev pub last_piece : List ℕ → List Val → Result Piece ErrorKind
last_piece s vs = if length vs == 0 then Ok (record { text = s; left = None }) else refused

-- what a directive shows of the next argument, and the arguments behind that
abbrev pub taken : View → Directive → List Val → Result (List ℕ × List Val) ErrorKind
taken view d [] = refused
taken view d (v ∷ vs) = after (shown view d v) (λ s. Ok (s, vs))

-- a text before a directive, and what stands in its place
unfoldable pub directed : View → List ℕ → List ℕ → List Val → Result Piece ErrorKind
directed view before s vs =
    after (directive_in s) (λ d.
    after (taken view d.0 vs) (λ t.
    Ok (piece (before ++ t.0) d.1 t.1)))

-- a second `%` is one itself
abbrev pub behind_percent : View → List ℕ → List ℕ → List Val → Result Piece ErrorKind
behind_percent view before [] vs = refused
behind_percent view before (c ∷ s) vs =
    if c == 37 then Ok (piece (before ++ codes "%") s vs) else directed view before (c ∷ s) vs

abbrev pub is_percent : ℕ → Bool
is_percent c = c == 37

-- up to the first `%` and what it begins, or all where there is none
unfoldable pub next_piece : View → List ℕ → List Val → Result Piece ErrorKind
next_piece view s vs =
    if nat_lt (position_or_len is_percent s) (length s)
    then behind_percent view (before_first is_percent s) (after_first is_percent s) vs
    else last_piece s vs

-- a piece before what is made of the rest
abbrev pub before_rest : (List ℕ → List Val → Result (List ℕ) ErrorKind) → List ℕ → Option (List ℕ × List Val) → Result (List ℕ) ErrorKind
before_rest f made None = Ok made
before_rest f made (Some left) = after (f left.0 left.1) (λ rest. Ok (made ++ rest))

abbrev pub pieces_up_to : View → ℕ → List ℕ → List Val → Result (List ℕ) ErrorKind
pieces_up_to view zero s vs = refused
pieces_up_to view (suc n) s vs = after (next_piece view s vs) (λ p. before_rest (pieces_up_to view n) p.text p.left)

-- piece by piece; there is at most one more than there are bytes
unfoldable pub formatted : View → List ℕ → List Val → Result (List ℕ) ErrorKind
formatted view s vs = pieces_up_to view (suc (length s)) s vs
