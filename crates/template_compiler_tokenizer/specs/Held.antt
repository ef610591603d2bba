-- What a tokenizer reads in one go.
use Rattle.std.specs.Prelude.{◌≡◌, ℕ, ◌≤◌, ◌<◌, Option, Some, None, List, [], ◌∷◌, ◌++◌, length, take, map, Result, Ok, Err}
use Rattle.template_values_errors.specs.declared.ErrorKind.{ErrorKind}
use Rattle.template_values_errors.specs.declared.ErrorKind.TheVariants.{OutOfMemory}
use Rattle.template_compiler_tree.specs.declared.span.Span.{Span}
use Rattle.template_compiler_syntax.specs.Syntax.{Syntax}
use Rattle.template_compiler_tokens.specs.Stretches.{BeginsBy}
use Rattle.template_compiler_tokens.specs.Left.{IsRefused}
use Rattle.template_compiler_tokens.specs.View.{token_of}
use Rattle.template_compiler_tokens.specs.declared.token.Token.{Token}
use Rattle.template_compiler_placed_tokens.specs.Left.{Placed, left_at}
use Rattle.template_compiler_placed_tokens.specs.Reads.{IsStage, IsRefusedKind}
use Rattle.template_compiler_tokens.specs.SourcePlaces.{span_between}
use Rattle.template_compiler_tokenizer.specs.Spans.{Spanned, spanned, spans_in, words_in}
use Rattle.template_compiler_tokenizer.specs.declared.all.Standing.{Standing}
use Rattle.template_compiler_placed_tokens.specs.declared.inside.Piece.{Piece}

-- tokens that were read, with their spans
abbrev pub spanned_of : List (Token × Span) → List Spanned
spanned_of ts = map (λ t. spanned (token_of t.0) t.1) ts

-- a reader can go on from where it stands
abbrev pub StandsIn : Syntax → List ℕ → Standing → Type 0
StandsIn x s at = IsStage x s at.stage at.from × BeginsBy s at.from at.stretch

-- the tokens that are left there
abbrev pub left_of : Syntax → List ℕ → Standing → List Placed
left_of x s at = left_at x s at.stage at.from

-- the one stands no further back than the other, and has no more tokens left
abbrev pub IsFurther : Syntax → List ℕ → Standing → Standing → Type 0
IsFurther x s first at = (first.from ≤ at.from) × (length (left_of x s at) ≤ length (left_of x s first))

-- of the tokens that are left, those before the rest were put behind the ones that were held
abbrev pub HoldsRead : List ℕ → List (Token × Span) → List Placed → List (Token × Span) → List Placed → Type 0
HoldsRead s old left held rest = spanned_of old ++ spans_in s left ≡ spanned_of held ++ spans_in s rest

-- the token was put behind the ones that were held, and is passed; or memory was wanting
abbrev pub Holds : List ℕ → Piece → List (Token × Span) → List (Token × Span) → Result Standing ErrorKind → Type 0
Holds s piece old held (Ok at) =
    (spanned_of held ≡ spanned_of old ++ spanned (token_of piece.token) (span_between (take (piece.begin) s) (take (piece.end) s)) ∷ []) ×
    (at.stage ≡ piece.stage) × (at.from ≡ piece.next) × BeginsBy s (piece.next) at.stretch
Holds s piece old held (Err kind) = (held ≡ old) × (kind ≡ OutOfMemory)

-- the tokens before one that is refused, and why it is
abbrev pub HoldsRefused : List ℕ → List (Token × Span) → List Placed → List (Token × Span) → ErrorKind → Type 0
HoldsRefused s old left held kind = (rest : List Placed) × HoldsRead s old left held rest × IsRefusedKind rest kind

-- the next token, if there is one
abbrev pub ReadsNext : Syntax → List ℕ → List (Token × Span) → Standing → List (Token × Span) → Result (Option Standing) ErrorKind → Type 0
ReadsNext x s old first held (Ok (Some at)) =
    HoldsRead s old (left_of x s first) held (left_of x s at) × StandsIn x s at × (first.from ≤ at.from) ×
    (length (left_of x s at) < length (left_of x s first))
ReadsNext x s old first held (Ok None) = HoldsRead s old (left_of x s first) held []
ReadsNext x s old first held (Err kind) = HoldsRefused s old (left_of x s first) held kind

-- all of them
abbrev pub ReadsAll : {A : Type 0} → List ℕ → List (Token × Span) → List Placed → List (Token × Span) → Result A ErrorKind → Type 0
ReadsAll s old left held (Ok done) = HoldsRead s old left held []
ReadsAll s old left held (Err kind) = HoldsRefused s old left held kind

-- all tokens that are left were put behind the ones that were held; or those before one that is refused, and why it is
abbrev pub TakesAll : {A : Type 0} → List Spanned → List Spanned → List Spanned → Result A (List ErrorKind) → Type 0
TakesAll old left held (Ok done) = held ≡ old ++ left
TakesAll old left held (Err e) = (rest : List Spanned) × (old ++ left ≡ held ++ rest) × IsRefused (words_in rest) e
