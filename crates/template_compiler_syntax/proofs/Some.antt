-- A source has a list of pieces.
use Rattle.std.proofs.Common.{◌≡◌, ℕ, zero, suc, ◌+◌, ◌-◌, ◌<◌, ◌≤◌, ◌⊎◌, inl, inr, true, List, [], ◌∷◌, length, take, drop, slice_index, refl, sym, ◌∙◌, ap, subst, arith, length-take, length-drop}
use Rattle.std.proofs.lemmas.Bool.{cases_lt, cases_eq, cases_Bool, false≢true}
use Rattle.std.specs.Char.{is_ascii_whitespace}
use Rattle.template_compiler_syntax.specs.declared.StartMarker.{StartMarker}
use Rattle.template_compiler_syntax.specs.declared.StartMarker.TheVariants.{Variable, Block, Comment, LineStatement, LineComment}
use Rattle.template_compiler_syntax.specs.Syntax.{Syntax, IsSet}
use Rattle.template_compiler_tokens.specs.Token.{Token, identifier}
use Rattle.template_compiler_syntax.specs.Places.{StandsAt, IsFirst, IsNowhere, IsLineEnd, newline_len, sign_at}
use Rattle.template_compiler_syntax.specs.declared.edges.Trim.{Trim}
use Rattle.template_compiler_syntax.specs.declared.edges.Trim.TheVariants.{Plain, Minus, Plus}
use Rattle.template_compiler_syntax.specs.Segments.{IsEnd, bare_end, signed_end, EndsAt, print_end, block_end, line_end, IsOver, only}

-- a fact is settled
abbrev pub Settled : Type 0 → Type 0
Settled P = P ⊎ (P → ⊥)

pub settle_texts : (xs ys : List ℕ) → Settled (xs ≡ ys)
settle_texts [] [] = inl refl
settle_texts [] (y ∷ ys) = inr (λ e. cc)
settle_texts (x ∷ xs) [] = inr (λ e. cc)
settle_texts (x ∷ xs) (y ∷ ys) =
    elim (cases_eq x y) [
      | inl same ↦ elim (settle_texts xs ys) [ inl rest ↦ inl cc | inr other ↦ inr (λ e. other cc) ]
      | inr other ↦ inr (λ e. other cc)
    ]

pub settle_only : (tokens : List Token) (word : List ℕ) → Settled (tokens ≡ only word)
settle_only [] word = inr (λ e. cc)
settle_only (identifier name ∷ []) word =
    elim (settle_texts name word) [ inl same ↦ inl cc | inr other ↦ inr (λ e. other cc) ]
settle_only (t ∷ []) word = inr (λ e. cc)
settle_only (t ∷ u ∷ rest) word = inr (λ e. cc)

pub settle_set : (text : List ℕ) → Settled (IsSet text)
settle_set [] = inr (λ set. set refl)
settle_set (b ∷ text) = inl (λ e. cc)

pub first_within : (P : ℕ → Type 0) → ((i : ℕ) → Settled (P i)) → (from n : ℕ) →
    ((i : ℕ) × IsFirst P from i) ⊎ ((j : ℕ) → from ≤ j → j < from + n → P j → ⊥)
first_within P settle from zero = inr (λ j low high here. absurd (omega arith))
first_within P settle from (suc n) =
    elim (settle from) [
      | inl here ↦ inl (from, record { ahead = omega arith; here = here; before = λ j low high. absurd (omega arith) })
      | inr not_here ↦ elim (first_within P settle (suc from) n) [
        | inl found ↦
            inl (
              found.0,
              (let first = found.1 in let ahead = first.ahead in record {
                ahead = omega arith;
                here = first.here;
                before =
                    λ j low high here. elim (cases_eq from j) [
                      | inl same ↦ not_here (subst P (sym same) here)
                      | inr other ↦ first.before j (omega arith) high here
                    ];
              }),
            )
        | inr none ↦
            inr (λ j low high here. elim (cases_eq from j) [
              | inl same ↦ not_here (subst P (sym same) here)
              | inr other ↦ none j (omega arith) (omega arith) here
            ])
      ]
    ]

pub first_below : (P : ℕ → Type 0) → ((i : ℕ) → Settled (P i)) → (from bound : ℕ) → ((i : ℕ) → P i → i < bound) →
    ((i : ℕ) × IsFirst P from i) ⊎ IsNowhere P from
first_below P settle from bound below =
    elim (first_within P settle from (bound - from)) [
      | inl found ↦ inl found
      | inr none ↦ inr (λ j low here. none j low (let high = below j here in omega arith) here)
    ]

pub settle_stands : (s : List ℕ) (i : ℕ) (text : List ℕ) → Settled (StandsAt s i text)
settle_stands s i text = settle_texts (take (length text) (drop i s)) text

pub set_long : (text : List ℕ) → IsSet text → 0 < length text
set_long [] set = absurd (set refl)
set_long (b ∷ text) set = omega arith

pub stands_within : (s : List ℕ) (i : ℕ) (text : List ℕ) → StandsAt s i text → i < length s ⊎ (length text ≡ 0)
stands_within s i text stands =
    elim (cases_lt i (length s)) [
      | inl within ↦ inl within
      | inr past ↦ inr (omega (arith, ap length stands, length-take (length text) (drop i s), length-drop i s))
    ]

pub stands_below : (s : List ℕ) (i : ℕ) (text : List ℕ) → IsSet text → StandsAt s i text → i < length s
stands_below s i text set stands =
    elim (stands_within s i text stands) [ inl within ↦ within | inr none ↦ absurd (let long = set_long text set in omega arith) ]

pub settle_line_end : (s : List ℕ) (i : ℕ) → Settled (IsLineEnd s i)
settle_line_end s i =
    elim (cases_lt 0 (newline_len s i)) [
      | inl newline ↦ inl (inl newline)
      | inr none ↦ elim (cases_lt i (length s)) [
        | inl within ↦ inr (λ over. elim over [ inl newline ↦ omega arith | inr past ↦ omega arith ])
        | inr past ↦ inl (inr past)
      ]
    ]

settle_plain : (sign : Trim) → Settled (sign ≡ Plain)
settle_plain Plain = inl refl
settle_plain Minus = inr (λ e. cc)
settle_plain Plus = inr (λ e. cc)

abbrev pub HasEnd : List ℕ → List ℕ → ℕ → Type 0
HasEnd s end i = (last : Trim) × (next : ℕ) × IsEnd s end i last next

pub no_end : {s end : List ℕ} {i next : ℕ} {last : Trim} → (StandsAt s i end → ⊥) →
    ((StandsAt s (i + 1) end → ⊥) ⊎ (sign_at s i ≡ Plain)) → IsEnd s end i last next → ⊥
no_end bare signed (bare_end stands n) = bare stands
no_end bare (inl signed) (signed_end none stands l sign n) = signed stands
no_end bare (inr unsigned) (signed_end none stands l sign n) = sign (l ∙ unsigned)

settle_end : (s end : List ℕ) (i : ℕ) → Settled (HasEnd s end i)
settle_end s end i =
    elim (settle_stands s i end) [
      | inl bare ↦ inl (Plain, i + length end, bare_end bare refl)
      | inr bare ↦ elim (settle_stands s (i + 1) end) [
        | inr signed ↦ inr (λ h. no_end bare (inl signed) (h.2))
        | inl signed ↦ elim (settle_plain (sign_at s i)) [
          | inl unsigned ↦ inr (λ h. no_end bare (inr unsigned) (h.2))
          | inr sign ↦ inl (sign_at s i, i + 1 + length end, signed_end bare signed refl sign refl)
        ]
      ]
    ]

white_print : {x : Syntax} {s : List ℕ} {i next : ℕ} {last : Trim} → is_ascii_whitespace (slice_index s i) ≡ true → EndsAt x s Variable i last next → ⊥
white_print white (print_end black end) = false≢true (sym black ∙ white)

white_block : {x : Syntax} {s : List ℕ} {i next : ℕ} {last : Trim} → is_ascii_whitespace (slice_index s i) ≡ true → EndsAt x s Block i last next → ⊥
white_block white (block_end black end) = false≢true (sym black ∙ white)

print_has_end : {x : Syntax} {s : List ℕ} {i next : ℕ} {last : Trim} → EndsAt x s Variable i last next → HasEnd s (x.variable_end) i
print_has_end {next = next} {last = last} (print_end black end) = (last, next, end)

block_has_end : {x : Syntax} {s : List ℕ} {i next : ℕ} {last : Trim} → EndsAt x s Block i last next → HasEnd s (x.block_end) i
block_has_end {next = next} {last = last} (block_end black end) = (last, next, end)

pub line_has_end : {x : Syntax} {s : List ℕ} {i next : ℕ} {last : Trim} → EndsAt x s LineStatement i last next → IsLineEnd s i
line_has_end (line_end over n) = over

no_comment_end : {x : Syntax} {s : List ℕ} {i next : ℕ} {last : Trim} → EndsAt x s Comment i last next → ⊥
no_comment_end over = elim over [ ]

no_line_comment_end : {x : Syntax} {s : List ℕ} {i next : ℕ} {last : Trim} → EndsAt x s LineComment i last next → ⊥
no_line_comment_end over = elim over [ ]

pub settle_over : (x : Syntax) (s : List ℕ) (k : StartMarker) (i : ℕ) → Settled (IsOver x s k i)
settle_over x s Variable i =
    elim (cases_Bool (is_ascii_whitespace (slice_index s i))) [
      | inl white ↦ inr (λ h. white_print white (h.2))
      | inr black ↦ elim (settle_end s (x.variable_end) i) [
        | inl h ↦ inl (h.0, h.1, print_end black (h.2))
        | inr none ↦ inr (λ h. none (print_has_end (h.2)))
      ]
    ]
settle_over x s Block i =
    elim (cases_Bool (is_ascii_whitespace (slice_index s i))) [
      | inl white ↦ inr (λ h. white_block white (h.2))
      | inr black ↦ elim (settle_end s (x.block_end) i) [
        | inl h ↦ inl (h.0, h.1, block_end black (h.2))
        | inr none ↦ inr (λ h. none (block_has_end (h.2)))
      ]
    ]
settle_over x s LineStatement i =
    elim (settle_line_end s i) [
      | inl over ↦ inl (Plain, i + newline_len s i, line_end over refl)
      | inr none ↦ inr (λ h. none (line_has_end (h.2)))
    ]
settle_over x s Comment i = inr (λ h. no_comment_end (h.2))
settle_over x s LineComment i = inr (λ h. no_line_comment_end (h.2))
