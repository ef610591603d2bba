-- The one span between two texts.
use Rattle.std.proofs.Common.{◌≡◌, ℕ, List}
use Rattle.template_compiler_tree.specs.declared.span.Span.{Span}
use Rattle.template_compiler_tokens.specs.SourcePlaces.{IsBetween, span_between}

abbrev span_of : ℕ → ℕ → ℕ → ℕ → ℕ → ℕ → Span
span_of a b c d e f = record { start_line = a; start_col = b; start_offset = c; end_line = d; end_col = e; end_offset = f }

same_span : {a b c d e f a' b' c' d' e' f' : ℕ} → a ≡ a' → b ≡ b' → c ≡ c' → d ≡ d' → e ≡ e' → f ≡ f' → span_of a b c d e f ≡ span_of a' b' c' d' e' f'
same_span p q r s t u = cc

pub span_is : (start end : List ℕ) (span : Span) → IsBetween start end span → span ≡ span_between start end
span_is start end span h = same_span h.start_line h.start_col h.start_offset h.end_line h.end_col h.end_offset
