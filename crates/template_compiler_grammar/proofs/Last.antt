-- A token that is passed is the last one.
use Rattle.std.proofs.Common.{◌≡◌, ℕ, zero, suc, ◌<◌, List, [], ◌∷◌, length, refl, sym, ◌∙◌, ap, arith}
use Rattle.std.specs.Prelude.{◌-◌, get_or}
use Rattle.template_compiler_tree.specs.declared.span.Span.{Span}
use Rattle.template_compiler_tokens.specs.Token.{Token}
use Rattle.template_compiler_tokens.specs.Places.{token_count, passed_count, no_span, span_before, last_span, next_span, until, stretch}

one_of : (spans : List Span) (i : ℕ) (a b : Span) → i < length spans → get_or spans i a ≡ get_or spans i b
one_of [] i a b h = absurd (omega arith)
one_of (x ∷ xs) zero a b h = refl
one_of (x ∷ xs) (suc i) a b h = one_of xs i a b (omega arith)

before_last : (spans : List Span) (n : ℕ) → n < length spans →
    span_before spans (length spans - n) ≡ get_or spans (length spans - suc n) no_span
before_last spans n h =
    let next : length spans - n ≡ suc (length spans - suc n) = omega arith in ap (λ i. span_before spans i) next

pub passed_is_last : (spans : List Span) (t : Token) (ts : List Token) → token_count (t ∷ ts) ≡ suc (token_count ts) →
    token_count ts < length spans → last_span spans ts ≡ next_span spans (t ∷ ts)
unfolding last_span next_span passed_count
passed_is_last spans t ts one h =
    before_last spans (token_count ts) h ∙
    one_of spans (length spans - suc (token_count ts)) no_span (last_span spans (t ∷ ts)) (omega arith) ∙
    ap (λ n. get_or spans (length spans - n) (last_span spans (t ∷ ts))) (sym one)

pub stands_alone : (spans : List Span) (t : Token) (ts : List Token) → token_count (t ∷ ts) ≡ suc (token_count ts) →
    token_count ts < length spans → stretch spans (t ∷ ts) ts ≡ next_span spans (t ∷ ts)
stands_alone spans t ts one h = ap (λ last. until (next_span spans (t ∷ ts)) last) (passed_is_last spans t ts one h)
