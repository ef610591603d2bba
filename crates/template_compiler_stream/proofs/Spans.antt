-- How the spans of tokens are found again from the tokens that are left.
use Rattle.std.proofs.Common.{◌≡◌, ℕ, suc, ◌-◌, ◌<◌, ◌≤◌, List, [], ◌∷◌, ◌++◌, map, length, drop, set, get_or, Option, None, Some, refl, sym, ◌∙◌, ap, subst, arith}
use Rattle.std.proofs.lemmas.List.{length-drop, length-map, get_or-map, get_or_past, map-set, set-get_or}
use Rattle.template_compiler_tree.specs.declared.span.Span.{Span}
use Rattle.template_compiler_tokens.specs.Token as spec
use Rattle.template_compiler_tokens.specs.Token.{bad}
use Rattle.template_compiler_tokens.specs.View.{token_of}
use Rattle.template_compiler_tokens.specs.declared.token.Token.{Token}
use Rattle.template_compiler_stream.specs.declared.refusal.Fault.{Fault}
use Rattle.template_compiler_stream.specs.Refusals.{fault_of}
use Rattle.template_compiler_stream.specs.Left.{left_in, ended}
use Rattle.template_compiler_tokens.specs.Places.{last_span, next_span, no_span, passed_count, span_before, token_count}
use Rattle.template_compiler_stream.specs.Spans.{PlacedTokens, spans_of, tokens_from}

-- no token is a fault
count_token : (t : Token) (ts : List spec.Token) → token_count (token_of t ∷ ts) ≡ suc (token_count ts)
count_token t ts = grind arith

count_held : (ys : List (Token × Span)) (f : Option Fault) → token_count (map (λ (t : Token × Span). token_of t.0) ys ++ ended f) ≡ length ys
count_held [] None = refl
count_held [] (Some f) = refl
count_held (t ∷ ys) f = count_token t.0 (map (λ (t : Token × Span). token_of t.0) ys ++ ended f) ∙ ap suc (count_held ys f)

count_left : (xs : List (Token × Span)) (i : ℕ) (f : Option Fault) → token_count (left_in xs i f) ≡ length xs - i
unfolding left_in
count_left xs i f = omega (arith, count_held (drop i xs) f, length-drop i xs)

-- each token that is left has its span
pub count_within : (v : PlacedTokens) (xs : List (Token × Span)) (i : ℕ) (f : Option Fault) → tokens_from xs i f ≡ v →
    token_count v.left ≤ length v.spans
unfolding spans_of
count_within v xs i f e =
    subst (λ (v : PlacedTokens). token_count v.left ≤ length v.spans) e
    (omega (arith, count_left xs i f, length-map xs (λ (t : Token × Span). t.1)))

passed_held : (xs : List (Token × Span)) (i : ℕ) (f : Option Fault) → i ≤ length xs → passed_count (spans_of xs) (left_in xs i f) ≡ i
unfolding passed_count spans_of
passed_held xs i f within = omega (arith, within, count_left xs i f, length-map xs (λ (t : Token × Span). t.1))

-- where none is left, the next one stands where the last one does
none_next : (spans : List Span) (ts : List spec.Token) → token_count ts ≡ 0 → last_span spans ts ≡ next_span spans ts
unfolding next_span passed_count
none_next spans ts none = sym (get_or_past spans (length spans - token_count ts) (last_span spans ts) (omega (arith, none)))

pub span_at_end : (spans : List Span) (ts : List spec.Token) → ts ≡ [] → last_span spans ts ≡ next_span spans ts
span_at_end spans ts e = none_next spans ts (ap token_count e)

pub span_at_fault : (spans : List Span) (ts : List spec.Token) (f : Fault) → ts ≡ bad (fault_of f) ∷ [] → last_span spans ts ≡ next_span spans ts
span_at_fault spans ts f e = none_next spans ts (ap token_count e)

-- the stream that is at a place
pub left_at : (v : PlacedTokens) (xs : List (Token × Span)) (i : ℕ) (f : Option Fault) → tokens_from xs i f ≡ v → v.left ≡ left_in xs i f
left_at v xs i f e = ap (λ (v : PlacedTokens). v.left) (sym e)

pub spans_at : (v : PlacedTokens) (xs : List (Token × Span)) (i : ℕ) (f : Option Fault) → tokens_from xs i f ≡ v → v.spans ≡ spans_of xs
spans_at v xs i f e = ap (λ (v : PlacedTokens). v.spans) (sym e)

pub next_at : (v : PlacedTokens) (xs ds : List (Token × Span)) (i : ℕ) (t : Token × Span) (f : Option Fault) → tokens_from xs i f ≡ v → ds ≡ xs →
    i < length ds → t ≡ get_or ds i t → t.1 ≡ next_span v.spans v.left
unfolding next_span spans_of
next_at v xs ds i t f e same within read =
    let fits : i < length xs = rw same at within in
    let place = passed_held xs i f (omega (arith, fits)) in
    let there = get_or-map (λ (t : Token × Span). t.1) xs i t (last_span (spans_of xs) (left_in xs i f)) fits in
    ap (λ (t : Token × Span). t.1) (rw same at read) ∙ sym there ∙
    ap (λ n. get_or (spans_of xs) n (last_span (spans_of xs) (left_in xs i f))) (sym place) ∙ ap (λ (v : PlacedTokens). next_span v.spans v.left) e

-- the last one that was passed
last_at : (v : PlacedTokens) (xs : List (Token × Span)) (i : ℕ) (f : Option Fault) → tokens_from xs i f ≡ v → i ≤ length xs →
    last_span v.spans v.left ≡ span_before (spans_of xs) i
unfolding last_span
last_at v xs i f e within = ap (λ (v : PlacedTokens). last_span v.spans v.left) (sym e) ∙ ap (λ n. span_before (spans_of xs) n) (passed_held xs i f within)

pub last_none : (v : PlacedTokens) (xs : List (Token × Span)) (i : ℕ) (f : Option Fault) → tokens_from xs i f ≡ v → i ≡ 0 → no_span ≡ last_span v.spans v.left
last_none v xs i f e none = sym (last_at v xs i f e (omega (arith, none)) ∙ ap (λ n. span_before (spans_of xs) n) none)

pub last_some : (v : PlacedTokens) (xs : List (Token × Span)) (i j : ℕ) (t : Token × Span) (f : Option Fault) → tokens_from xs i f ≡ v →
    i ≤ length xs → i ≡ suc j → t ≡ get_or xs j t → t.1 ≡ last_span v.spans v.left
unfolding spans_of
last_some v xs i j t f e within next read =
    let there = get_or-map (λ (t : Token × Span). t.1) xs j t no_span (omega (arith, within, next)) in
    ap (λ (t : Token × Span). t.1) read ∙ sym there ∙ ap (λ n. span_before (spans_of xs) n) (sym next) ∙ sym (last_at v xs i f e within)

-- what is left at a token's place stands there too
pub spans_set : (xs : List (Token × Span)) (i : ℕ) (t y : Token × Span) → i < length xs → t ≡ get_or xs i t → y.1 ≡ t.1 → spans_of (set xs i y) ≡ spans_of xs
unfolding spans_of
spans_set xs i t y within read same =
    map-set (λ (t : Token × Span). t.1) xs i y ∙ ap (λ s. set (map (λ (t : Token × Span). t.1) xs) i s) (same ∙ ap (λ (t : Token × Span). t.1) read) ∙
    sym (map-set (λ (t : Token × Span). t.1) xs i (get_or xs i t)) ∙ ap (λ us. map (λ (t : Token × Span). t.1) us) (set-get_or xs i t)
