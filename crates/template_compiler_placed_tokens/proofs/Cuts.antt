-- Where a source may be cut: behind the ends of segments and behind tokens.
use Rattle.std.proofs.Common.{◌≡◌, ℕ, ◌+◌, ◌<◌, ◌≤◌, inl, inr, List, length, drop, slice_index, refl, sym, ◌∙◌, ap, subst, arith, length-take, get_or-drop}
use Rattle.std.proofs.lemmas.Bool.{cases_lt, cases_Bool, eqb-true}
use Rattle.std.proofs.lemmas.List.{get_or-take, get_or_past}
use Rattle.std.proofs.lemmas.Str.{IsUtf8-drop, IsCharBoundary-start, IsCharBoundary-end, IsCharBoundary-before_ascii, IsCharBoundary-from_take, IsCharBoundary-from_rest, IsCharBoundary-after_ascii}
use Rattle.std.specs.Str.{IsUtf8, IsCharBoundary}
use Rattle.template_compiler_syntax.specs.Syntax.{Syntax, IsSet, start_text}
use Rattle.template_compiler_syntax.specs.declared.StartMarker.{StartMarker}
use Rattle.template_compiler_syntax.specs.declared.StartMarker.TheVariants.{Variable, Block, Comment, LineStatement, LineComment}
use Rattle.template_compiler_syntax.specs.declared.edges.Trim.{Trim}
use Rattle.template_compiler_syntax.specs.Places.{StandsAt, IsLineEnd, newline_len, sign_at, sign_width}
use Rattle.template_compiler_syntax.specs.Segments.{IsEnd, bare_end, signed_end, EndsAt, line_end, inside_from}
use Rattle.std.specs.Prelude.{Option, None, Some, IfSome, ◌==◌}
use Rattle.template_compiler_placed_tokens.specs.Finds.{FindsDelimitedEnd, FindsEnd}
use Rattle.template_compiler_syntax.proofs.Searches.{newline_at}
use Rattle.template_compiler_syntax.proofs.Some.{stands_below, set_long}

-- a text that stands at a place begins with the byte there
pub stands_first : (s text : List ℕ) (i : ℕ) → IsSet text → StandsAt s i text → slice_index s i ≡ slice_index text 0
stands_first s text i set stands =
    let long = set_long text set in
    sym (get_or-drop i s 0 0 ∙ ap (λ n. slice_index s n) (let e : i + 0 ≡ i = omega arith in e)) ∙
    (sym (get_or-take (length text) (drop i s) 0 0 long) ∙ ap (λ t. slice_index t 0) stands)

pub stands_start : (s text : List ℕ) (i : ℕ) → IsUtf8 text → IsSet text → StandsAt s i text → IsCharBoundary s i
stands_start s text i utf8 set stands =
    let within = stands_below s i text set stands in
    let long = set_long text set in
    let same = stands_first s text i set stands in
    (omega arith, λ h high. (let low = (IsCharBoundary-start text utf8).1 long (omega arith) in omega arith))

pub stands_cut : (s text : List ℕ) (i : ℕ) → IsUtf8 s → IsUtf8 text → IsSet text → StandsAt s i text → IsCharBoundary s (i + length text)
stands_cut s text i source utf8 set stands =
    let within = stands_below s i text set stands in
    let rest = IsUtf8-drop s i source (stands_start s text i utf8 set stands) in
    let fits : length text ≤ length (drop i s) = omega (arith, ap length stands, length-take (length text) (drop i s)) in
    IsCharBoundary-from_rest s i (length text) (omega arith)
    (IsCharBoundary-from_take (drop i s) (length text) rest fits (subst IsUtf8 (sym stands) utf8))

pub end_cut : {s end : List ℕ} {i next : ℕ} {last : Trim} → IsUtf8 s → IsUtf8 end → IsSet end → IsEnd s end i last next → IsCharBoundary s next
end_cut {s = s} {end = end} {i = i} source utf8 set (bare_end stands n) = subst (λ m. IsCharBoundary s m) (sym n) (stands_cut s end i source utf8 set stands)
end_cut {s = s} {end = end} {i = i} source utf8 set (signed_end none stands l sign n) =
    subst (λ m. IsCharBoundary s m) (sym n) (stands_cut s end (i + 1) source utf8 set stands)

read_within : (s : List ℕ) (i b : ℕ) → slice_index s i ≡ b → 0 < b → i < length s
read_within s i b e some =
    elim (cases_lt i (length s)) [ inl within ↦ within | inr past ↦ absurd (let none = get_or_past s i 0 past in omega arith) ]

feed_width : (s : List ℕ) (i : ℕ) → slice_index s i ≡ 10 → i + 1 ≡ i + newline_len s i
feed_width s i e = rw e refl

return_width : (s : List ℕ) (i : ℕ) → slice_index s i ≡ 13 → slice_index s (i + 1) ≡ 10 → i + 1 + 1 ≡ i + newline_len s i
return_width s i e f = rw (e, f) (omega arith)

pub newline_behind : (s : List ℕ) (i : ℕ) → IsUtf8 s → i ≤ length s → IsLineEnd s i → IsCharBoundary s (i + newline_len s i)
newline_behind s i source within over =
    elim (cases_lt 0 (newline_len s i)) [
      | inr none ↦
          let past : length s ≡ i = elim over [ inl some ↦ absurd (omega arith) | inr past ↦ omega arith ] in
          subst (λ m. IsCharBoundary s m) (let e : length s ≡ i + newline_len s i = omega arith in e) (IsCharBoundary-end s)
      | inl some ↦ elim (newline_at s i some) [
        | inl feed ↦
            let below = read_within s i 10 feed (omega arith) in
            subst (λ m. IsCharBoundary s m) (feed_width s i feed) (IsCharBoundary-after_ascii s i source below (omega arith))
        | inr both ↦
            let second = both.1 in
            let below = read_within s (i + 1) 10 second (omega arith) in
            subst (λ m. IsCharBoundary s m) (return_width s i (both.0) second) (IsCharBoundary-after_ascii s (i + 1) source below (omega arith))
      ]
    ]

pub line_cut : {x : Syntax} {s : List ℕ} {i next : ℕ} {last : Trim} → IsUtf8 s → i ≤ length s → EndsAt x s LineStatement i last next → IsCharBoundary s next
line_cut {s = s} {i = i} source within (line_end over n) = subst (λ m. IsCharBoundary s m) (sym n) (newline_behind s i source within over)

pub delimited_cut : (s end : List ℕ) (i : ℕ) (r : Option (Trim × ℕ)) → FindsDelimitedEnd s end i r → IsUtf8 end → IsSet end →
    IfSome r (λ p. IsUtf8 s → IsCharBoundary s (p.1))
delimited_cut s end i None none utf8 set = tt
delimited_cut s end i (Some p) found utf8 set = λ source. end_cut source utf8 set (found.1)

pub line_end_cut : (x : Syntax) (s : List ℕ) (i : ℕ) (r : Option (Trim × ℕ)) → i ≤ length s → FindsEnd x s LineStatement i r →
    IfSome r (λ p. IsUtf8 s → IsCharBoundary s (p.1))
line_end_cut x s i None within none = tt
line_end_cut x s i (Some p) within over = λ source. line_cut source within over

sign_cut : (s : List ℕ) (i : ℕ) → IsUtf8 s → IsCharBoundary s i → IsCharBoundary s (i + sign_width (sign_at s i))
sign_cut s i source cut =
    elim (cases_Bool (slice_index s i == 45)) [
      | inl minus ↦
          let e = eqb-true (slice_index s i) 45 minus in
          rw minus (IsCharBoundary-after_ascii s i source (read_within s i 45 e (omega arith)) (omega arith))
      | inr other ↦ elim (cases_Bool (slice_index s i == 43)) [
        | inl plus ↦
            let e = eqb-true (slice_index s i) 43 plus in
            rw (other, plus) (IsCharBoundary-after_ascii s i source (read_within s i 43 e (omega arith)) (omega arith))
        | inr none ↦ rw (other, none) (subst (λ m. IsCharBoundary s m) (let e : i ≡ i + 0 = omega arith in e) cut)
      ]
    ]

pub inside_cut : (x : Syntax) (s : List ℕ) (k : StartMarker) (i : ℕ) → IsUtf8 s → IsUtf8 (start_text x k) → IsSet (start_text x k) →
    StandsAt s i (start_text x k) → IsCharBoundary s (inside_from x s k i)
inside_cut x s Variable i source utf8 set stands = sign_cut s (i + length (x.variable_start)) source (stands_cut s (x.variable_start) i source utf8 set stands)
inside_cut x s Block i source utf8 set stands = sign_cut s (i + length (x.block_start)) source (stands_cut s (x.block_start) i source utf8 set stands)
inside_cut x s Comment i source utf8 set stands = sign_cut s (i + length (x.comment_start)) source (stands_cut s (x.comment_start) i source utf8 set stands)
inside_cut x s LineStatement i source utf8 set stands =
    subst (λ m. IsCharBoundary s m) (let e : i + length (x.line_statement_prefix) ≡ i + length (x.line_statement_prefix) + 0 = omega arith in e)
    (stands_cut s (x.line_statement_prefix) i source utf8 set stands)
inside_cut x s LineComment i source utf8 set stands =
    subst (λ m. IsCharBoundary s m) (let e : i + length (x.line_comment_prefix) ≡ i + length (x.line_comment_prefix) + 0 = omega arith in e)
    (stands_cut s (x.line_comment_prefix) i source utf8 set stands)

pub newline_before : (s : List ℕ) (i : ℕ) → i ≤ length s → IsLineEnd s i → IsCharBoundary s i
newline_before s i within over =
    elim over [
      | inr past ↦ subst (λ m. IsCharBoundary s m) (let e : length s ≡ i = omega arith in e) (IsCharBoundary-end s)
      | inl newline ↦ elim (newline_at s i newline) [
        | inl feed ↦ IsCharBoundary-before_ascii s i (read_within s i 10 feed (omega arith)) (omega arith)
        | inr both ↦ (let first = both.0 in IsCharBoundary-before_ascii s i (read_within s i 13 first (omega arith)) (omega arith))
      ]
    ]
