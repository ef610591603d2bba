-- What a stream of tokens has ahead.
use Rattle.std.specs.Prelude.{◌≡◌, List, [], ◌∷◌, Option, None, Some}
use Rattle.template_values_errors.specs.declared.ErrorKind.{ErrorKind}
use Rattle.template_compiler_tree.specs.declared.span.Span.{Span}
use Rattle.template_compiler_tokens.specs.Token as token
use Rattle.template_compiler_tokens.specs.View.{token_of}
use Rattle.template_compiler_tokens.specs.Left.{IsRefused}
use Rattle.template_compiler_tokenizer.specs.Spans.{Spanned, spanned}
use Rattle.template_compiler_tokenizer.specs.Tokenizer.{TokenizerView}
use Rattle.template_compiler_tokenizer.specs.declared.ahead.Ahead.{Ahead}
use Rattle.template_compiler_tokenizer.specs.declared.ahead.Ahead.TheVariants.{Next, End, Refused}

-- the tokens that are left, alone and with their spans, the kind of the refusal that it answers from now on, if it does,
-- and where the next token and the last one stand; where none is ahead, the last one does
pub record Stream : Type 0 where
  pub left : List token.Token
  pub spans : List Spanned
  pub refused : Option ErrorKind
  pub current_span : Span
  pub last_span : Span

-- what a stream is with what is ahead of it and what stands behind that, behind a token of the span
abbrev pub stream_of : TokenizerView → Ahead → Span → Stream
stream_of behind (Next t span) last = record {
  left = token_of t ∷ behind.left;
  spans = spanned (token_of t) span ∷ behind.spans;
  refused = None;
  current_span = span;
  last_span = last;
}
stream_of behind End last = record { left = behind.left; spans = behind.spans; refused = None; current_span = last; last_span = last }
stream_of behind (Refused kind) last = record { left = behind.left; spans = behind.spans; refused = Some kind; current_span = last; last_span = last }

-- what is ahead is so
abbrev pub IsAhead : TokenizerView → Ahead → Type 0
IsAhead behind (Next t span) = Unit {0}
IsAhead behind End = (behind.left ≡ []) × (behind.spans ≡ [])
IsAhead behind (Refused kind) = IsRefused behind.left (kind ∷ [])

-- the span, ended where another ends
abbrev pub ended_by : Span → Span → Span
ended_by span last = record span { end_line = last.end_line; end_col = last.end_col; end_offset = last.end_offset }

-- a token was taken off what was left, to be ahead
pub record ReadsAhead (old new : TokenizerView) (ahead : Ahead) : Type 0 where
  pub all : (last : Span) → (stream_of new ahead last).left ≡ old.left
  pub spans : (last : Span) → (stream_of new ahead last).spans ≡ old.spans
  pub is_ahead : IsAhead new ahead
