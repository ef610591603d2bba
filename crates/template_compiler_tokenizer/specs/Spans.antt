-- The spans of tokens.
use Rattle.std.specs.Prelude.{◌≡◌, ℕ, List, [], ◌∷◌, take, Option, None, Some, Result, Ok, Err}
use Rattle.std.specs.Borrow.{Bor}
use Rattle.template_values_errors.specs.declared.ErrorKind.{ErrorKind}
use Rattle.template_compiler_tree.specs.declared.span.Span.{Span}
use Rattle.template_compiler_syntax.specs.Syntax.{Syntax}
use Rattle.template_compiler_tokens.specs.Token as token
use Rattle.template_compiler_tokens.specs.View.{token_of}
use Rattle.template_compiler_tokens.specs.declared.token.Token.{Token}
use Rattle.template_compiler_tokens.specs.SourcePlaces.{span_between}
use Rattle.template_compiler_syntax.specs.declared.edges.Edge.TheVariants.{Nothing}
use Rattle.template_compiler_syntax.specs.Segments.{HasPieces, Piece}
use Rattle.template_compiler_syntax.specs.Stripping.{stripped}
use Rattle.template_compiler_syntax.specs.Flat.{template_text}
use Rattle.template_compiler_placed_tokens.specs.Left.{Placed, placed_of}

-- a token and its span
pub record Spanned : Type 0 where
  pub token : token.Token
  pub span : Span

abbrev pub spanned : token.Token → Span → Spanned
spanned t span = record { token = t; span = span }

abbrev pub words_in : List Spanned → List token.Token
words_in [] = []
words_in (t ∷ ts) = t.token ∷ words_in ts

-- tokens of a source by their spans
abbrev pub spans_in : List ℕ → List Placed → List Spanned
spans_in s [] = []
spans_in s (p ∷ ps) = spanned (p.token) (span_between (take (p.begin) s) (take (p.end) s)) ∷ spans_in s ps

-- the tokens of a source with their spans
pub data HasSpans (x : Syntax) (source : List ℕ) : List Spanned → Type 0 where
  source_spans : {pieces : List Piece} {tokens : List Spanned} → HasPieces x (template_text x source) 0 pieces →
      tokens ≡ spans_in (template_text x source) (placed_of x (template_text x source) (stripped x (template_text x source) Nothing pieces)) →
      HasSpans x source tokens

-- the first of the tokens that are left with its span, and those that are left behind it; what is no token stays
abbrev pub TakesSpan : List Spanned → List Spanned → Result (Option (Token × Span)) (List ErrorKind) → Type 0
TakesSpan old new (Ok (Some taken)) = old ≡ spanned (token_of (taken.0)) (taken.1) ∷ new
TakesSpan old new (Ok None) = (old ≡ []) × (new ≡ [])
TakesSpan old new (Err e) = new ≡ old

-- the first of the tokens that are left with its span, which stays
abbrev pub ShowsSpan : List Spanned → Result (Option (Bor Token × Span)) (List ErrorKind) → Type 0
ShowsSpan left (Ok (Some shown)) = (behind : List Spanned) × (left ≡ spanned (token_of (shown.0.now)) (shown.1) ∷ behind)
ShowsSpan left (Ok None) = left ≡ []
ShowsSpan left (Err e) = Unit {0}
