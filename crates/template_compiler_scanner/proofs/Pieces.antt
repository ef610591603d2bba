-- What a literal's inside stands for, piece by piece: bytes up to a `\`, its escape, and the rest.
use Rattle.std.proofs.Common.{◌≡◌, ℕ, zero, suc, ◌+◌, ◌<◌, ◌≤◌, None, Some, List, [], ◌∷◌, ◌++◌, length, take, drop, get_or, slice_index, refl, inl, inr, add-one, arith, length-drop}
use Rattle.std.specs.Prelude.{encode_utf8}
use Rattle.std.proofs.Math.Seq.{drop-cons}
use Rattle.std.proofs.lemmas.Bool.{eqb-true, eq-eqb}
use Rattle.std.proofs.lemmas.List.{append-nil, take_all, drop_all}
use Rattle.memchr.specs.Find.{IsFirstByte, is_byte}
use Rattle.template_compiler_tokens.specs.Texts.{IsEscape, Unescapes, unescapes_end, unescapes_byte, unescapes_escape}
use Rattle.template_compiler_tokens.proofs.Decided.{text_none_here, text_none_next, text_none_behind}
use Rattle.template_values_errors.specs.declared.ErrorKind.{ErrorKind}
use Rattle.template_compiler_scanner.specs.Scans.{IsRefused}
use Rattle.template_compiler_scanner.proofs.Characters.{escape_ends}

-- no `\` stands below the place
abbrev pub IsPlain : List ℕ → ℕ → Type 0
IsPlain s i = (k : ℕ) → k < i → get_or s k 0 ≡ 92 → ⊥

plain_tail : (b : ℕ) (s : List ℕ) (i : ℕ) → IsPlain (b ∷ s) (suc i) → IsPlain s i
plain_tail b s i plain k h e = plain (suc k) (omega arith) e

plain_goes_on : (s : List ℕ) (i : ℕ) (t : List ℕ) → i ≤ length s → IsPlain s i → Unescapes (drop i s) t → Unescapes s (take i s ++ t)
plain_goes_on s zero t h plain u = u
plain_goes_on [] (suc i) t h plain u = absurd (omega arith)
plain_goes_on (b ∷ s) (suc i) t h plain u =
    unescapes_byte (plain 0 (omega arith)) (plain_goes_on s i t (omega arith) (plain_tail b s i plain) u)

plain_fails : (s : List ℕ) (i : ℕ) → i ≤ length s → IsPlain s i → ((t : List ℕ) → Unescapes (drop i s) t → ⊥) → (t : List ℕ) → Unescapes s t → ⊥
plain_fails s zero h plain none = none
plain_fails [] (suc i) h plain none = absurd (omega arith)
plain_fails (b ∷ s) (suc i) h plain none =
    text_none_next (plain 0 (omega arith)) (plain_fails s i (omega arith) (plain_tail b s i plain) none)

opened : (s : List ℕ) (i : ℕ) → i < length s → drop i s ≡ slice_index s i ∷ drop (i + 1) s
opened s i h = rw add-one (drop-cons s i 0 h)

pub before_found : (s : List ℕ) (i : ℕ) → IsFirstByte (is_byte 92) s (Some i) → IsPlain s i
before_found s i found k h e = found.0.before k (omega arith) h (eq-eqb (slice_index s k) 92 e)

pub byte_found : (s : List ℕ) (i : ℕ) → IsFirstByte (is_byte 92) s (Some i) → slice_index s i ≡ 92
byte_found s i found = eqb-true (slice_index s i) 92 found.1

-- the text of a piece, its escape and the rest
pub escape_goes_on : (s : List ℕ) (i c n : ℕ) (t : List ℕ) → IsFirstByte (is_byte 92) s (Some i) → IsEscape (drop (i + 1) s) c n →
    Unescapes (drop n (drop (i + 1) s)) t → Unescapes s (take i s ++ (encode_utf8 c ++ t))
escape_goes_on s i c n t found escape u =
    let within = found.0.high in
    plain_goes_on s i (encode_utf8 c ++ t) (omega arith) (before_found s i found)
    (rw (opened s i within) (unescapes_escape (byte_found s i found) escape refl u refl))

pub escape_fails : (s : List ℕ) (i c n : ℕ) → IsFirstByte (is_byte 92) s (Some i) → IsEscape (drop (i + 1) s) c n →
    ((t : List ℕ) → Unescapes (drop n (drop (i + 1) s)) t → ⊥) → (t : List ℕ) → Unescapes s t → ⊥
escape_fails s i c n found escape none =
    let within = found.0.high in
    plain_fails s i (omega arith) (before_found s i found)
    (rw (opened s i within) (text_none_behind (byte_found s i found) escape none))

pub no_escape_fails : (s : List ℕ) (i : ℕ) → IsFirstByte (is_byte 92) s (Some i) → ((c n : ℕ) → IsEscape (drop (i + 1) s) c n → ⊥) →
    (t : List ℕ) → Unescapes s t → ⊥
no_escape_fails s i found none =
    let within = found.0.high in
    plain_fails s i (omega arith) (before_found s i found)
    (rw (opened s i within) (text_none_here (byte_found s i found) none))

-- a text without a `\` stands for itself
pub plain_is_itself : (s : List ℕ) → IsFirstByte (is_byte 92) s None → Unescapes s s
plain_is_itself s none =
    let all : IsPlain s (length s) = λ k h e. none k (omega arith) h (eq-eqb (slice_index s k) 92 e) in
    let u = plain_goes_on s (length s) [] (omega arith) all (rw (drop_all (length s) s (omega arith)) unescapes_end) in
    rw (take_all (length s) s (omega arith), append-nil) at u

pub escape_is_shorter : (s r : List ℕ) (i c n : ℕ) → i < length s → IsEscape (drop (i + 1) s) c n → r ≡ drop n (drop (i + 1) s) → length r < length s
escape_is_shorter s r i c n h escape e =
    let some = (escape_ends escape).some in
    rw e (simp (length-drop, length-drop) (omega arith))

-- the same refusal for another reason
pub refused_as : {P Q : Type 0} {kind : ErrorKind} → (P → Q) → IsRefused P kind → IsRefused Q kind
refused_as f (inl memory) = inl memory
refused_as f (inr (escape, p)) = inr (escape, f p)
