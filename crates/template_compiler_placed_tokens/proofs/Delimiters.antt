-- Where segments end, and where they don't.
use Rattle.std.proofs.Common.{◌≡◌, ℕ, suc, ◌+◌, ◌<◌, ◌≤◌, inl, inr, true, false, List, [], length, slice_index, Option, None, Some, refl, sym, ◌∙◌, subst, arith}
use Rattle.std.proofs.lemmas.Bool.{false≢true}
use Rattle.std.proofs.lemmas.List.{get_or_past}
use Rattle.std.specs.Char.{is_ascii_whitespace}
use Rattle.template_compiler_syntax.specs.declared.StartMarker.{StartMarker}
use Rattle.template_compiler_syntax.specs.declared.StartMarker.TheVariants.{Variable, Block, Comment, LineStatement, LineComment}
use Rattle.template_compiler_syntax.specs.Syntax.{Syntax}
use Rattle.template_compiler_syntax.specs.declared.edges.Trim.{Trim}
use Rattle.template_compiler_syntax.specs.declared.edges.Trim.TheVariants.{Plain}
use Rattle.template_compiler_syntax.specs.Places.{sign_at, newline_len}
use Rattle.template_compiler_syntax.specs.Segments.{IsEnd, EndsAt, print_end, block_end, IsOver, Ending, HasInside, ended, blank}
use Rattle.template_compiler_tokens.specs.Token.{Token}
use Rattle.std.specs.Str.{IsUtf8, IsCharBoundary}
use Rattle.std.proofs.lemmas.Str.{IsCharBoundary-after_ascii}
use Rattle.template_compiler_syntax.proofs.Pieces.{white_within}
use Rattle.template_compiler_syntax.proofs.Some.{line_has_end}
use Rattle.template_compiler_placed_tokens.specs.Finds.{FindsDelimitedEnd, FindsEnd}

pub sign_past : (s : List ℕ) (i : ℕ) → length s ≤ i → sign_at s i ≡ Plain
sign_past s i past = rw (get_or_past s i 0 past) refl

pub print_ends : {x : Syntax} {s : List ℕ} {i next : ℕ} {last : Trim} → EndsAt x s Variable i last next →
    (is_ascii_whitespace (slice_index s i) ≡ false) × IsEnd s (x.variable_end) i last next
print_ends (print_end black end) = (black, end)

pub block_ends : {x : Syntax} {s : List ℕ} {i next : ℕ} {last : Trim} → EndsAt x s Block i last next →
    (is_ascii_whitespace (slice_index s i) ≡ false) × IsEnd s (x.block_end) i last next
block_ends (block_end black end) = (black, end)

pub no_comment_end : {x : Syntax} {s : List ℕ} {i next : ℕ} {last : Trim} → EndsAt x s Comment i last next → ⊥
no_comment_end over = elim over [ ]

pub no_line_comment_end : {x : Syntax} {s : List ℕ} {i next : ℕ} {last : Trim} → EndsAt x s LineComment i last next → ⊥
no_line_comment_end over = elim over [ ]

pub finds_print_end : (x : Syntax) (s : List ℕ) (i : ℕ) (r : Option (Trim × ℕ)) → FindsDelimitedEnd s (x.variable_end) i r → FindsEnd x s Variable i r
finds_print_end x s i None none = λ h. (let ends = print_ends (h.2) in none (h.0) (h.1) (ends.0) (ends.1))
finds_print_end x s i (Some p) end = print_end (end.0) (end.1)

pub finds_block_end : (x : Syntax) (s : List ℕ) (i : ℕ) (r : Option (Trim × ℕ)) → FindsDelimitedEnd s (x.block_end) i r → FindsEnd x s Block i r
finds_block_end x s i None none = λ h. (let ends = block_ends (h.2) in none (h.0) (h.1) (ends.0) (ends.1))
finds_block_end x s i (Some p) end = block_end (end.0) (end.1)

pub finds_no_end : (x : Syntax) (s : List ℕ) (i : ℕ) → FindsEnd x s Comment i None × FindsEnd x s LineComment i None
finds_no_end x s i = (λ h. no_comment_end (h.2), λ h. no_line_comment_end (h.2))

-- white space ends no other segment than a line statement
pub no_blank_end : (x : Syntax) (s : List ℕ) (k : StartMarker) (i : ℕ) → is_ascii_whitespace (slice_index s i) ≡ true → (k ≡ LineStatement → ⊥) →
    FindsEnd x s k i None
no_blank_end x s Variable i white other = λ h. false≢true (sym ((print_ends (h.2)).0) ∙ white)
no_blank_end x s Block i white other = λ h. false≢true (sym ((block_ends (h.2)).0) ∙ white)
no_blank_end x s Comment i white other = λ h. no_comment_end (h.2)
no_blank_end x s LineStatement i white other = λ h. other refl
no_blank_end x s LineComment i white other = λ h. no_line_comment_end (h.2)

pub white_no_block_end : (x : Syntax) (s : List ℕ) (i : ℕ) → is_ascii_whitespace (slice_index s i) ≡ true → IsOver x s Block i → ⊥
white_no_block_end x s i white h = false≢true (sym ((block_ends (h.2)).0) ∙ white)

pub line_goes_on : (x : Syntax) (s : List ℕ) (i : ℕ) → newline_len s i ≡ 0 → i < length s → FindsEnd x s LineStatement i None
line_goes_on x s i none within h = elim (line_has_end (h.2)) [ inl newline ↦ omega arith | inr past ↦ omega arith ]

pub at_kind : (x : Syntax) (s : List ℕ) (i : ℕ) {k l : StartMarker} (r : Option (Trim × ℕ)) → k ≡ l → FindsEnd x s l i r → FindsEnd x s k i r
at_kind x s i r e h = subst (λ m. FindsEnd x s m i r) (sym e) h

-- what stands inside from a place on stands there from another one on
abbrev pub Lifts : Syntax → List ℕ → StartMarker → ℕ → ℕ → ℕ → Type 0
Lifts x s k d i from = (tokens : List Token) (ending : Ending) → HasInside x s k d i tokens ending → HasInside x s k d from tokens ending

pub place_ended : (x : Syntax) (s b : List ℕ) (k : StartMarker) (d i from next : ℕ) (last : Trim) → b ≡ s → d ≡ 0 → Lifts x b k d i from →
    EndsAt x b k i last next → HasInside x s k d from [] (Some (last, next))
place_ended x s b k d i from next last e zero' lifts over =
    subst (λ t. HasInside x t k d from [] (Some (last, next))) e
    (lifts [] (Some (last, next)) (subst (λ n. HasInside x b k n i [] (Some (last, next))) (sym zero') (ended over)))

pub place_passed : (x : Syntax) (b : List ℕ) (k : StartMarker) (d i from : ℕ) → Lifts x b k d i from →
    (d ≡ 0 → IsOver x b k i → ⊥) → is_ascii_whitespace (slice_index b i) ≡ true → Lifts x b k d (i + 1) from
place_passed x b k d i from lifts none white tokens ending has =
    let there : i + 1 ≡ suc i = omega arith in
    lifts tokens ending (blank none white (subst (λ n. HasInside x b k d n tokens ending) there has))

white_small : (b : ℕ) → is_ascii_whitespace b ≡ true → b < 128
white_small b e = grind arith

pub white_cut : (b : List ℕ) (i : ℕ) → IsUtf8 b → IsCharBoundary b i → is_ascii_whitespace (slice_index b i) ≡ true → IsCharBoundary b (i + 1)
white_cut b i text cut white =
    IsCharBoundary-after_ascii b i text (white_within b i white) (white_small (slice_index b i) white)
