-- The tokens of a text that holds nothing else.
use Rattle.std.specs.Prelude.{◌≡◌, ℕ, ◌<◌, true, false, List, [], ◌∷◌, ◌++◌, length, take, drop, slice_index}
use Rattle.std.specs.Char.{is_ascii_whitespace}
use Rattle.template_compiler_tree.specs.declared.span.Span.{Span}
use Rattle.template_compiler_tokens.specs.Token.{Token, TokenFault, bad}
use Rattle.template_compiler_tokens.specs.Lexical.{Begins}
use Rattle.template_compiler_tokens.specs.SourcePlaces.{span_between}
use Rattle.template_compiler_syntax.specs.Segments.{is_bad}
use Rattle.template_compiler_stream.specs.Spans.{PlacedTokens}

-- a text's tokens, parted by white space; nothing follows what is none
pub data IsSpelled : List ℕ → List Token → Type 0 where
  spelled_end : IsSpelled [] []
  spelled_blank : {b : ℕ} {s : List ℕ} {ts : List Token} → is_ascii_whitespace b ≡ true → IsSpelled s ts → IsSpelled (b ∷ s) ts
  spelled_token : {s : List ℕ} {t : Token} {ts : List Token} (n : ℕ) → 0 < length s →
      is_ascii_whitespace (slice_index s 0) ≡ false → Begins s t n → is_bad t ≡ false → IsSpelled (drop n s) ts → IsSpelled s (t ∷ ts)
  spelled_bad : {s : List ℕ} {fault : TokenFault} → 0 < length s → is_ascii_whitespace (slice_index s 0) ≡ false →
      Begins s (bad fault) 0 → IsSpelled s (bad fault ∷ [])

-- where its tokens stand behind the bytes before them: those before the first that is none
abbrev pub spelled_spans : {s : List ℕ} {ts : List Token} → List ℕ → IsSpelled s ts → List Span
spelled_spans before spelled_end = []
spelled_spans before (spelled_blank {b = b} white rest) = spelled_spans (before ++ b ∷ []) rest
spelled_spans before (spelled_token {s = s} n some black begins good rest) =
    span_between before (before ++ take n s) ∷ spelled_spans (before ++ take n s) rest
spelled_spans before (spelled_bad some black begins) = []

-- a stream of all tokens of a text
pub record HoldsSpelled (text : List ℕ) (stream : PlacedTokens) : Type 0 where
  pub tokens : IsSpelled text stream.left
  pub spans : stream.spans ≡ spelled_spans [] tokens
