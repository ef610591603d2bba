-- A place inside a segment has one list of placed tokens.
use Rattle.std.proofs.Common.{◌≡◌, ℕ, suc, true, false, List, slice_index, refl, sym, ◌∙◌, ap, subst}
use Rattle.std.proofs.lemmas.Bool.{false≢true}
use Rattle.std.specs.Char.{is_ascii_whitespace}
use Rattle.template_compiler_syntax.specs.declared.StartMarker.{StartMarker}
use Rattle.template_compiler_syntax.specs.Syntax.{Syntax}
use Rattle.template_compiler_tokens.specs.Token.{Token, TokenFault, bad}
use Rattle.template_compiler_tokens.specs.Lexical.{IsToken}
use Rattle.template_compiler_tokens.proofs.OneToken.{one_token}
use Rattle.template_compiler_syntax.specs.declared.edges.Trim.{Trim}
use Rattle.template_compiler_syntax.specs.Segments.{EndsAt, IsOver, is_bad, Ending, HasInside, ended, blank, token, no_token}
use Rattle.template_compiler_syntax.proofs.One.{one_over}
use Rattle.template_compiler_placed_tokens.specs.Left.{placed_in}

over_at : {x : Syntax} {s : List ℕ} {k : StartMarker} {i j next : ℕ} {last : Trim} → i ≡ j →
    EndsAt x s k i last next → IsOver x s k j
over_at {x = x} {s = s} {k = k} {next = next} {last = last} e over =
    (last, next, subst (λ n. EndsAt x s k n last next) e over)

white_apart : (s : List ℕ) {i j : ℕ} {a : Type 0} → i ≡ j →
    is_ascii_whitespace (slice_index s i) ≡ true → is_ascii_whitespace (slice_index s j) ≡ false → a
white_apart s e white none = absurd (false≢true (sym none ∙ (ap (λ k. is_ascii_whitespace (slice_index s k)) (sym e) ∙ white)))

bad_apart : {t : Token} {fault : TokenFault} {a : Type 0} → is_bad t ≡ false → t ≡ bad fault → a
bad_apart good e = absurd (false≢true (sym good ∙ ap is_bad e))

token_here : {s : List ℕ} {i j n m : ℕ} {t u : Token} → i ≡ j → IsToken s i t n → IsToken s j u m → (t ≡ u) × (n ≡ m)
token_here {s = s} {i = i} {n = n} {m = m} {t = t} {u = u} e first second =
    one_token s i t u n m first (subst (λ k. IsToken s k u m) (sym e) second)

one_placed_at : {x : Syntax} {s : List ℕ} {k : StartMarker} {d d' i j : ℕ} {ts ts' : List Token} {e e' : Ending} →
    d ≡ d' → i ≡ j → (h : HasInside x s k d i ts e) (h' : HasInside x s k d' j ts' e') → placed_in h ≡ placed_in h'
one_placed_at p q (ended over) (ended over') = (let same = one_over q over over' in let next = same.1 in cc)
one_placed_at p q (ended over) (blank none white rest) = absurd (none (sym p) (over_at q over))
one_placed_at p q (ended over) (token none white t good rest) = absurd (none (sym p) (over_at q over))
one_placed_at p q (ended over) (no_token none white t) = absurd (none (sym p) (over_at q over))
one_placed_at p q (blank none white rest) (ended over) = absurd (none p (over_at (sym q) over))
one_placed_at p q (blank none white rest) (blank none' white' rest') = one_placed_at p (ap suc q) rest rest'
one_placed_at {s = s} p q (blank none white rest) (token none' white' t good rest') = white_apart s q white white'
one_placed_at {s = s} p q (blank none white rest) (no_token none' white' t) = white_apart s q white white'
one_placed_at p q (token none white t good rest) (ended over) = absurd (none p (over_at (sym q) over))
one_placed_at {s = s} p q (token none white t good rest) (blank none' white' rest') = white_apart s (sym q) white' white
one_placed_at p q (token none white t good rest) (token none' white' t' good' rest') =
    let same = token_here q t t' in
    let word = same.0 in
    let behind = same.1 in
    let tail = one_placed_at (let e = same.0 in cc) (same.1) rest rest' in cc
one_placed_at p q (token none white t good rest) (no_token none' white' t') = bad_apart good ((token_here q t t').0)
one_placed_at p q (no_token none white t) (ended over) = absurd (none p (over_at (sym q) over))
one_placed_at {s = s} p q (no_token none white t) (blank none' white' rest') = white_apart s (sym q) white' white
one_placed_at p q (no_token none white t) (token none' white' t' good' rest') = bad_apart good' (sym ((token_here q t t').0))
one_placed_at p q (no_token none white t) (no_token none' white' t') =
    let same = token_here q t t' in
    let word = same.0 in
    let behind = same.1 in cc

pub one_placed : {x : Syntax} {s : List ℕ} {k : StartMarker} {d i : ℕ} {ts ts' : List Token} {e e' : Ending}
    (h : HasInside x s k d i ts e) (h' : HasInside x s k d i ts' e') → placed_in h ≡ placed_in h'
one_placed h h' = one_placed_at refl refl h h'
