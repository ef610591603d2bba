-- Where the tokens stand that are read at once: those before the first that is none.
use Rattle.std.specs.Prelude.{◌≡◌, if◌then◌else◌, List, [], ◌∷◌}
use Rattle.template_compiler_tree.specs.declared.span.Span.{Span}
use Rattle.template_compiler_syntax.specs.Segments.{is_bad}
use Rattle.template_compiler_tokenizer.specs.Spans.{Spanned, words_in}
use Rattle.template_compiler_stream.specs.Spans.{PlacedTokens}

abbrev pub token_spans : List Spanned → List Span
token_spans [] = []
token_spans (t ∷ ts) = if is_bad t.token then [] else t.span ∷ token_spans ts

-- a stream of all tokens of a template
pub record HoldsTokens (tokens : List Spanned) (stream : PlacedTokens) : Type 0 where
  pub words : stream.left ≡ words_in tokens
  pub spans : stream.spans ≡ token_spans tokens
