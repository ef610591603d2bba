-- Where the tokens of a stream stand.
use Rattle.std.specs.Prelude.{◌≡◌, ℕ, List, map, Option}
use Rattle.template_compiler_tree.specs.declared.span.Span.{Span}
use Rattle.template_compiler_tokens.specs.Token as token
use Rattle.template_compiler_tokens.specs.declared.token.Token as scanned
use Rattle.template_compiler_stream.specs.Left.{left_in}
use Rattle.template_compiler_stream.specs.declared.refusal.Fault.{Fault}
use Rattle.template_compiler_stream.specs.declared.stream.First.{First}
use Rattle.template_compiler_stream.specs.declared.stream.First.TheVariants.{Token, End, Bad}
use Rattle.template_compiler_stream.specs.declared.stream.Next.{Next}
use Rattle.template_compiler_stream.specs.declared.stream.Next.TheVariants as next

-- the tokens that are left, and where each token of the whole stands, those that were passed too
pub record PlacedTokens : Type 0 where
  pub left : List token.Token
  pub spans : List Span

-- all tokens stand where they stood
abbrev pub KeepsSpans : PlacedTokens → PlacedTokens → Type 0
KeepsSpans old new = new.spans ≡ old.spans

unfoldable pub spans_of : List (scanned.Token × Span) → List Span
spans_of held = map (λ t. t.1) held

-- the stream at a place among those that it holds
abbrev pub tokens_from : List (scanned.Token × Span) → ℕ → Option Fault → PlacedTokens
tokens_from held place fault = record { left = left_in held place fault; spans = spans_of held }

-- a token that was taken, or is shown, stands there
abbrev pub TakenAt : Span → First → Type 0
TakenAt span (Token t place) = place ≡ span
TakenAt span End = Unit {0}
TakenAt span (Bad f) = Unit {0}

abbrev pub ShownAt : Span → Next → Type 0
ShownAt span (next.Token t place) = place ≡ span
ShownAt span next.End = Unit {0}
ShownAt span (next.Bad f) = Unit {0}
