-- Where tokens stand, by the spans of all of them: how many are left tells which one is next.
use Rattle.std.specs.Prelude.{ℕ, zero, suc, ◌-◌, List, [], ◌∷◌, length, get_or}
use Rattle.template_compiler_tree.specs.declared.span.Span.{Span}
use Rattle.template_compiler_tokens.specs.Token.{Token, bad}

-- how many tokens are left; what is none is not counted, and nothing follows it
abbrev pub token_count : List Token → ℕ
token_count [] = 0
token_count (bad f ∷ ts) = 0
token_count (t ∷ ts) = suc (token_count ts)

-- how many of all tokens were passed, where those are left
unfoldable pub passed_count : List Span → List Token → ℕ
passed_count spans ts = length spans - token_count ts

-- the start of the first line
abbrev pub no_span : Span
no_span = record { start_line = 0; start_col = 0; start_offset = 0; end_line = 0; end_col = 0; end_offset = 0 }

-- where the one before a place among them stands
abbrev pub span_before : List Span → ℕ → Span
span_before spans zero = no_span
span_before spans (suc i) = get_or spans i no_span

-- where the token that was passed last stands; where none was, the default span
unfoldable pub last_span : List Span → List Token → Span
last_span spans ts = span_before spans (passed_count spans ts)

-- where the next token stands; where none is left, the one that was passed last
unfoldable pub next_span : List Span → List Token → Span
next_span spans ts = get_or spans (passed_count spans ts) (last_span spans ts)

-- from where a span starts to where another ends
abbrev pub until : Span → Span → Span
until start end = record start { end_line = end.end_line; end_col = end.end_col; end_offset = end.end_offset }

-- from the first token of the ones to the last token before the others
abbrev pub stretch : List Span → List Token → List Token → Span
stretch spans from behind = until (next_span spans from) (last_span spans behind)
