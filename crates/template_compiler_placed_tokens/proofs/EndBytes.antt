-- Where segments of a kind end, as it is looked up once.
use Rattle.std.proofs.Common.{◌≡◌, ℕ, ◌<◌, inl, inr, false, List, length, slice_index, Option, None, Some, refl, sym, ◌∙◌, ap, subst, arith}
use Rattle.std.proofs.lemmas.Bool.{false≢true, false_from_ne_true, eqb-true}
use Rattle.std.specs.Prelude.{◌⊎◌, ◌==◌, IfSome}
use Rattle.std.specs.Char.{is_ascii_whitespace}
use Rattle.std.specs.Str.{IsUtf8, IsCharBoundary}
use Rattle.template_compiler_syntax.specs.declared.StartMarker.{StartMarker}
use Rattle.template_compiler_syntax.specs.declared.StartMarker.TheVariants.{Variable, Block, Comment, LineStatement, LineComment}
use Rattle.template_compiler_syntax.specs.Syntax.{Syntax, IsSet}
use Rattle.template_compiler_syntax.specs.declared.edges.Trim.{Trim}
use Rattle.template_compiler_syntax.specs.declared.edges.Trim.TheVariants.{Plain}
use Rattle.template_compiler_syntax.specs.Places.{sign_of, newline_len}
use Rattle.template_compiler_syntax.specs.Segments.{IsEnd, EndsAt, bare_end, signed_end, line_end}
use Rattle.template_compiler_syntax.proofs.Searches.{newline_at}
use Rattle.template_compiler_syntax.proofs.Some.{line_has_end}
use Rattle.template_compiler_placed_tokens.specs.Ends.{IsEndText}
use Rattle.template_compiler_placed_tokens.specs.Finds.{FindsDelimitedEnd, FindsEnd, FindsOpenEnd, FindsPlainEnd}
use Rattle.template_compiler_placed_tokens.proofs.Cuts.{stands_first, delimited_cut}
use Rattle.template_compiler_placed_tokens.proofs.Delimiters.{print_ends, block_ends, no_comment_end, no_line_comment_end, finds_print_end, finds_block_end, no_blank_end, line_goes_on}

-- the byte is neither the first one of the text nor a sign
pub record IsOther (b : ℕ) (text : List ℕ) : Type 0 where
  pub first : b ≡ slice_index text 0 → ⊥
  pub minus : b ≡ 45 → ⊥
  pub plus : b ≡ 43 → ⊥

plain_sign : (b : ℕ) (text : List ℕ) → IsOther b text → sign_of b ≡ Plain
plain_sign b text other =
    let minus : (b == 45) ≡ false = false_from_ne_true (b == 45) (λ t. other.minus (eqb-true b 45 t)) in
    let plus : (b == 43) ≡ false = false_from_ne_true (b == 43) (λ t. other.plus (eqb-true b 43 t)) in
    rw (minus, plus) refl

no_end_by : {s text : List ℕ} {i next : ℕ} {last : Trim} → IsSet text → IsOther (slice_index s i) text → IsEnd s text i last next → ⊥
no_end_by {s = s} {text = text} {i = i} set other (bare_end stands n) = other.first (stands_first s text i set stands)
no_end_by {s = s} {text = text} {i = i} set other (signed_end none stands l sign n) = sign (l ∙ plain_sign (slice_index s i) text other)

-- none ends at such a byte
pub ends_not : (x : Syntax) (s text : List ℕ) (k : StartMarker) (i : ℕ) → IsEndText x k text → is_ascii_whitespace (slice_index s i) ≡ false →
    i < length s → IsOther (slice_index s i) text → FindsEnd x s k i None
ends_not x s text Variable i is black within other =
    λ h. no_end_by is.1 other (subst (λ t. IsEnd s t i (h.0) (h.1)) (sym is.0) ((print_ends (h.2)).1))
ends_not x s text Block i is black within other =
    λ h. no_end_by is.1 other (subst (λ t. IsEnd s t i (h.0) (h.1)) (sym is.0) ((block_ends (h.2)).1))
ends_not x s text Comment i is black within other = λ h. no_comment_end (h.2)
ends_not x s text LineComment i is black within other = λ h. no_line_comment_end (h.2)
ends_not x s text LineStatement i is black within other =
    λ h. elim (line_has_end (h.2)) [
      | inr past ↦ omega arith
      | inl newline ↦ elim (newline_at s i newline) [
        | inl feed ↦ false≢true (sym black ∙ ap is_ascii_whitespace feed)
        | inr both ↦ false≢true (sym black ∙ ap is_ascii_whitespace (both.0))
      ]
    ]

-- the end delimiter was looked for, or found none
pub finds_delimited : (x : Syntax) (s text : List ℕ) (k : StartMarker) (i : ℕ) (r : Option (Trim × ℕ)) → (k ≡ Variable) ⊎ (k ≡ Block) → IsEndText x k text →
    FindsDelimitedEnd s text i r → FindsEnd x s k i r
finds_delimited x s text Variable i r kind is found = finds_print_end x s i r (subst (λ t. FindsDelimitedEnd s t i r) is.0 found)
finds_delimited x s text Block i r kind is found = finds_block_end x s i r (subst (λ t. FindsDelimitedEnd s t i r) is.0 found)
finds_delimited x s text Comment i r kind is found = elim kind [ inl e ↦ absurd cc | inr e ↦ absurd cc ]
finds_delimited x s text LineStatement i r kind is found = elim kind [ inl e ↦ absurd cc | inr e ↦ absurd cc ]
finds_delimited x s text LineComment i r kind is found = elim kind [ inl e ↦ absurd cc | inr e ↦ absurd cc ]

pub finds_delimited_cut : (x : Syntax) (s text : List ℕ) (k : StartMarker) (i : ℕ) (r : Option (Trim × ℕ)) → (k ≡ Variable) ⊎ (k ≡ Block) → IsEndText x k text →
    FindsDelimitedEnd s text i r → IsUtf8 text → IfSome r (λ p. IsUtf8 s → IsCharBoundary s (p.1))
finds_delimited_cut x s text Variable i r kind is found utf8 = delimited_cut s text i r found utf8 (is.1)
finds_delimited_cut x s text Block i r kind is found utf8 = delimited_cut s text i r found utf8 (is.1)
finds_delimited_cut x s text Comment i r kind is found utf8 = elim kind [ inl e ↦ absurd cc | inr e ↦ absurd cc ]
finds_delimited_cut x s text LineStatement i r kind is found utf8 = elim kind [ inl e ↦ absurd cc | inr e ↦ absurd cc ]
finds_delimited_cut x s text LineComment i r kind is found utf8 = elim kind [ inl e ↦ absurd cc | inr e ↦ absurd cc ]

pub open_end : (x : Syntax) (s : List ℕ) (k : StartMarker) (d i : ℕ) (r : Option (Trim × ℕ)) → d ≡ 0 → FindsEnd x s k i r → FindsOpenEnd x s k d i r
open_end x s k d i None e none = λ _. none
open_end x s k d i (Some p) e over = (e, over)

-- a line statement ends without a sign
plain_line : {x : Syntax} {s : List ℕ} {i next : ℕ} {last : Trim} → EndsAt x s LineStatement i last next → last ≡ Plain
plain_line (line_end over n) = refl

pub plain_end : (x : Syntax) (s : List ℕ) (k : StartMarker) (d i next : ℕ) (last : Trim) → k ≡ LineStatement → d ≡ 0 → FindsEnd x s LineStatement i (Some (last, next)) →
    FindsPlainEnd x s k d i (Some next)
plain_end x s k d i next last kind e over =
    (e, subst (λ m. EndsAt x s m i Plain next) (sym kind) (subst (λ l. EndsAt x s LineStatement i l next) (plain_line over) over))

no_newline : (s : List ℕ) (i : ℕ) → slice_index s i ≡ 32 → newline_len s i ≡ 0
no_newline s i e = rw e refl

-- a space ends nothing
pub space_goes_on : (x : Syntax) (s : List ℕ) (k : StartMarker) (i : ℕ) → slice_index s i ≡ 32 → i < length s → FindsEnd x s k i None
space_goes_on x s Variable i e within = no_blank_end x s Variable i (ap is_ascii_whitespace e) (λ h. absurd cc)
space_goes_on x s Block i e within = no_blank_end x s Block i (ap is_ascii_whitespace e) (λ h. absurd cc)
space_goes_on x s Comment i e within = no_blank_end x s Comment i (ap is_ascii_whitespace e) (λ h. absurd cc)
space_goes_on x s LineComment i e within = no_blank_end x s LineComment i (ap is_ascii_whitespace e) (λ h. absurd cc)
space_goes_on x s LineStatement i e within = line_goes_on x s i (no_newline s i e) within
