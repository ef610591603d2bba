-- The tokens of a source, from what a tokenizer put behind none.
use Rattle.std.proofs.Common.{◌≡◌, inl, inr, List, [], ◌∷◌, ◌++◌, map, Option, None, Some, refl, sym, ◌∙◌, ap, append-nil}
use Rattle.template_compiler_tree.specs.declared.span.Span.{Span}
use Rattle.template_values_errors.specs.declared.ErrorKind.{ErrorKind}
use Rattle.template_values_errors.specs.declared.ErrorKind.TheVariants.{OutOfMemory}
use Rattle.template_compiler_tokens.specs.Token as spec
use Rattle.template_compiler_tokens.specs.Token.{bad}
use Rattle.template_compiler_tokens.specs.Left.{IsRefused, kind_of}
use Rattle.template_compiler_tokens.specs.View.{token_of}
use Rattle.template_compiler_tokens.specs.declared.token.Token.{Token}
use Rattle.template_compiler_stream.specs.declared.refusal.Fault.{Fault}
use Rattle.template_compiler_stream.specs.Refusals.{fault_of}
use Rattle.template_compiler_stream.specs.Left.{ended}
use Rattle.template_compiler_stream.specs.Spans.{PlacedTokens}
use Rattle.template_compiler_tokenizer.specs.Held.{spanned_of}
use Rattle.template_compiler_tokenizer.specs.Spans.{Spanned, words_in}
use Rattle.template_compiler_placed_tokens.proofs.Scanned.{not_bad}
use Rattle.template_compiler_sources.specs.Spans.{token_spans, HoldsTokens}
use Rattle.template_compiler_sources.proofs.TokenFaults.{told_fault}

words_held : (ts : List (Token × Span)) → words_in (spanned_of ts) ≡ map (λ (t : Token × Span). token_of t.0) ts
words_held [] = refl
words_held (t ∷ ts) = ap (λ us. token_of t.0 ∷ us) (words_held ts)

words_append : (ts us : List Spanned) → words_in (ts ++ us) ≡ words_in ts ++ words_in us
words_append [] us = refl
words_append (t ∷ ts) us = ap (λ vs. t.token ∷ vs) (words_append ts us)

-- each token that is held is one
spans_held : (ts : List (Token × Span)) (rest : List Spanned) → token_spans (spanned_of ts ++ rest) ≡ map (λ (t : Token × Span). t.1) ts ++ token_spans rest
spans_held [] rest = refl
spans_held (t ∷ ts) rest = rw (not_bad t.0) (ap (λ us. t.1 ∷ us) (spans_held ts rest))

-- behind them stands none
no_spans : (rest : List Spanned) (fault : Option Fault) → words_in rest ≡ ended fault → token_spans rest ≡ []
no_spans [] fault e = refl
no_spans (t ∷ ts) None e = cc
no_spans (t ∷ ts) (Some f) e = let first : t.token ≡ bad (fault_of f) = cc in rw first refl

pub none_before : (none : List (Token × Span)) (spans : List Spanned) → none ≡ [] → spanned_of none ++ spans ≡ spans
none_before none spans e = ap (λ (ts : List (Token × Span)). spanned_of ts ++ spans) e

-- an error of a reader is one kind
one_kind : (left : List spec.Token) (e es : List ErrorKind) (kind : ErrorKind) → IsRefused left e → e ≡ kind ∷ es → IsRefused left (kind ∷ [])
one_kind left e es kind (inl h) k = inl (let same : kind ∷ es ≡ OutOfMemory ∷ [] = sym k ∙ h in cc)
one_kind left e es kind (inr (f, l, h)) k = inr (f, l, (let same : kind ∷ es ≡ kind_of f ∷ [] = sym k ∙ h in cc))

-- what it tells stands alone there
pub fault_alone : (left : List spec.Token) (e es : List ErrorKind) (kind : ErrorKind) (f : Fault) → IsRefused left e → e ≡ kind ∷ es →
    kind ≡ kind_of (fault_of f) → left ≡ ended (Some f)
fault_alone left e es kind f refused first told = told_fault left kind (fault_of f) (one_kind left e es kind refused first) told

-- a stream of those that were put there, and of what stands behind them
pub holds_tokens : (held : List (Token × Span)) (tokens rest : List Spanned) (fault : Option Fault) (stream : PlacedTokens) →
    stream.left ≡ map (λ (t : Token × Span). token_of t.0) held ++ ended fault → stream.spans ≡ map (λ (t : Token × Span). t.1) held →
    tokens ≡ spanned_of held ++ rest → words_in rest ≡ ended fault → HoldsTokens tokens stream
holds_tokens held tokens rest fault stream left spans parts last = record {
  words =
      let held_words = ap words_in parts ∙ words_append (spanned_of held) rest ∙ ap (λ us. us ++ words_in rest) (words_held held) in
      left ∙ sym (held_words ∙ ap (λ us. map (λ (t : Token × Span). token_of t.0) held ++ us) last);
  spans =
      let held_spans = ap token_spans parts ∙ spans_held held rest ∙ ap (λ us. map (λ (t : Token × Span). t.1) held ++ us) (no_spans rest fault last) in
      spans ∙ sym (held_spans ∙ append-nil (map (λ (t : Token × Span). t.1) held));
}
