-- What a scanned token inside a segment leaves.
use Rattle.std.proofs.Common.{◌≡◌, ℕ, ◌+◌, ◌≤◌, inl, inr, false, List, ◌∷◌, length, drop, Ok, Err, refl, sym, ◌∙◌, ap, subst, arith}
use Rattle.std.proofs.lemmas.Str.{IsCharBoundary-from_rest}
use Rattle.std.specs.Str.{IsCharBoundary}
use Rattle.template_values_errors.specs.declared.ErrorKind.{ErrorKind}
use Rattle.template_compiler_syntax.specs.declared.StartMarker.{StartMarker}
use Rattle.template_compiler_syntax.specs.Syntax.{Syntax}
use Rattle.template_compiler_tokens.specs.Token as spec
use Rattle.template_compiler_tokens.specs.Token.{bad, symbol, bracket_open, bracket_close, paren_open, paren_close, brace_open, brace_close}
use Rattle.template_compiler_tokens.specs.Lexical.{Begins, token_at}
use Rattle.template_compiler_tokens.specs.View.{token_of}
use Rattle.template_compiler_tokens.specs.declared.token.Token.{Token}
use Rattle.template_compiler_tokens.specs.declared.token.Token.TheVariants.{Plus}
use Rattle.template_compiler_scanner.specs.Scans.{Scans}
use Rattle.template_compiler_syntax.specs.declared.edges.Trim.{Trim}
use Rattle.template_compiler_syntax.specs.Segments.{EndsAt, is_bad, open_brackets}
use Rattle.template_compiler_placed_tokens.specs.Left.{placed, inside_tokens}
use Rattle.template_compiler_placed_tokens.specs.Finds.{IsTokenPlace, IsNextEnd}
use Rattle.template_compiler_placed_tokens.specs.Reads.{IsRefusedKind}
use Rattle.template_compiler_placed_tokens.proofs.Steps.{inside_over, inside_token, inside_bad}
use Rattle.template_compiler_placed_tokens.proofs.Later.{ends_ahead}

pub not_bad : (t : Token) → is_bad (token_of t) ≡ false
not_bad Plus = refl
not_bad t = refl

pub open_le : (t : spec.Token) (d : ℕ) → open_brackets t d ≤ d + 1
open_le (symbol bracket_open) d = omega arith
open_le (symbol paren_open) d = omega arith
open_le (symbol brace_open) d = omega arith
open_le (symbol bracket_close) d = omega arith
open_le (symbol paren_close) d = omega arith
open_le (symbol brace_close) d = omega arith
open_le t d = omega arith

pub scanned : (x : Syntax) (s rest : List ℕ) (k : StartMarker) (d i from depth width : ℕ) (t : Token) → rest ≡ drop i s → IsTokenPlace x s k d i →
    inside_tokens x s k d from ≡ inside_tokens x s k d i → Scans rest (Ok (t, width)) → depth ≡ open_brackets (token_of t) d →
    inside_tokens x s k d from ≡ placed (token_of t) i (i + width) ∷ inside_tokens x s k depth (i + width)
scanned x s rest k d i from depth width t e place same begins brackets =
    same ∙
    (inside_token x s k d i (i + width) (token_of t) (place.none) (place.black)
    (token_at width (subst (λ r. Begins r (token_of t) width) e begins) refl) (not_bad t) ∙
    ap (λ m. placed (token_of t) i (i + width) ∷ inside_tokens x s k m (i + width)) (sym brackets))

pub not_scanned : (x : Syntax) (s rest : List ℕ) (k : StartMarker) (d i from : ℕ) (kind : ErrorKind) → rest ≡ drop i s → IsTokenPlace x s k d i →
    inside_tokens x s k d from ≡ inside_tokens x s k d i → Scans rest (Err kind) → IsRefusedKind (inside_tokens x s k d from) kind
not_scanned x s rest k d i from kind e place same (inr memory) = inl (memory.0)
not_scanned x s rest k d i from kind e place same (inl fault) =
    inr (
      fault.0,
      i,
      i + 0,
      same ∙
          inside_bad x s k d i (i + 0) (fault.0) (place.none) (place.black) (token_at 0 (subst (λ r. Begins r (bad (fault.0)) 0) e (fault.2)) refl),
      fault.1,
    )

-- the segment's end is the next of the tokens
pub next_end : (x : Syntax) (s b : List ℕ) (k : StartMarker) (d i from next : ℕ) (last : Trim) → b ≡ s → d ≡ 0 → from ≤ i → IsCharBoundary b i →
    inside_tokens x b k d from ≡ inside_tokens x b k d i → EndsAt x b k i last next → IsNextEnd x s k d from i next last
next_end x s b k d i from next last e none low cut same over =
    subst (λ t. IsNextEnd x t k d from i next last) e (record {
      low = low;
      high = ends_ahead over;
      cut = cut;
      tokens = same ∙ (ap (λ n. inside_tokens x b k n i) none ∙ inside_over x b k i next last over);
    })

pub scanned_cut : (s rest : List ℕ) (i width : ℕ) → rest ≡ drop i s → i ≤ length s → IsCharBoundary rest width → IsCharBoundary s (i + width)
scanned_cut s rest i width e within cut = IsCharBoundary-from_rest s i width within (subst (λ r. IsCharBoundary r width) e cut)
