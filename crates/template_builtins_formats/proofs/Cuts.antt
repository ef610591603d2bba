-- Where a directive ends, a text may be cut.
use Rattle.std.proofs.Common.{arith, ◌≡◌, ℕ, ◌+◌, ◌-◌, ◌<◌, ◌≤◌, Bool, true, false, cond, eqb, ltb, List, [], ◌∷◌, drop, length, get_or, Option, None, Some, Result, Ok, Err, refl, sym, ap, subst, ◌∙◌, lit<, add-zero, length-drop, IsUtf8}
use Rattle.std.proofs.lemmas.Bool.{ltb-false, ltb-true, ne_eqb}
use Rattle.std.proofs.lemmas.List.{drop-drop, get_or-drop}
use Rattle.std.proofs.lemmas.Str.{IsCharBoundary-after_ascii}
use Rattle.std.specs.List.{position_or_len}
use Rattle.std.specs.Str.{IsCharBoundary}
use Rattle.template_values_errors.specs.declared.ErrorKind.{ErrorKind}
use Rattle.template_builtins_arguments.specs.Answers.{then as after, refused}
use Rattle.template_builtins_numbers.proofs.Places.{place-le}
use Rattle.template_builtins_formats.specs.Directives.{behind, directive, directive_in, ends, flags_in, front, kind_in, kind_of, limited, precision_in, width_in}
use Rattle.template_builtins_formats.specs.declared.directives.Directive.{Directive}
use Rattle.template_builtins_formats.specs.declared.directives.Kind.{Kind}
use Rattle.template_builtins_formats.specs.declared.parts.Part.{Part}
use Rattle.template_builtins_formats.specs.declared.parts.Part.TheVariants as parts

after_ok : {T U : Type 0} (r : Result T ErrorKind) (f : T → Result U ErrorKind) (u : U) → after r f ≡ Ok u → (x : T) × (r ≡ Ok x) × (f x ≡ Ok u)
after_ok (Ok x) f u h = (x, refl, h)
after_ok (Err kind) f u h = absurd (cc h)

-- a text is the end of another
abbrev Cut : List ℕ → List ℕ → Type 0
Cut s r = (k : ℕ) × (k ≤ length s) × (r ≡ drop k s)

cut_none : (s : List ℕ) → Cut s s
cut_none s = (0, omega arith, refl)

cut_twice : (s r t : List ℕ) → Cut s r → Cut r t → Cut s t
cut_twice s r t (k, within, is) (j, inside, also) =
    let size : length r ≡ length (drop k s) = ap length is in
    (k + j, omega (arith, size, length-drop k s), also ∙ ap (drop j) is ∙ drop-drop j k s)

cut_behind : (part : Part) (s : List ℕ) → Cut s (behind part s)
unfolding behind
cut_behind part s = (position_or_len (ends part) s, place-le (ends part) s, refl)

-- what is read after another thing
after_last : {T U : Type 0} (r : Result T ErrorKind) (f : T → U) (u : U) → after r (λ x. Ok (f x)) ≡ Ok u → (x : T) × (r ≡ Ok x) × (f x ≡ u)
after_last (Ok x) f u h = (x, refl, cc h)
after_last (Err kind) f u h = absurd (cc h)

cut_same : (s r t : List ℕ) → Cut s r → t ≡ r → Cut s t
cut_same s r t (k, within, is) same = (k, within, same ∙ is)

abbrev number : List ℕ → ℕ → ℕ × List ℕ
number rest n = (n, rest)

cut_width : (s : List ℕ) (w : ℕ × List ℕ) → width_in s ≡ Ok w → Cut s w.1
unfolding width_in
cut_width s w h =
    let read = after_last (limited (front parts.Figures s)) (number (behind parts.Figures s)) w h in
    cut_same s (behind parts.Figures s) w.1 (cut_behind parts.Figures s) (sym (ap (λ (p : ℕ × List ℕ). p.1) read.2))

abbrev some_number : ℕ × List ℕ → Option ℕ × List ℕ
some_number w = (Some w.0, w.1)

cut_point : (b : Bool) (c : ℕ) (s : List ℕ) (p : Option ℕ × List ℕ)
    → cond b (after (width_in s) (λ w. Ok (some_number w))) (Ok (None, c ∷ s)) ≡ Ok p → Cut (c ∷ s) p.1
cut_point true c s p h =
    let read = after_last (width_in s) some_number p h in
    cut_same (c ∷ s) read.0.1 p.1 (cut_twice (c ∷ s) s read.0.1 (1, omega arith, refl) (cut_width s read.0 read.1)) (sym (ap (λ (q : Option ℕ × List ℕ). q.1) read.2))
cut_point false c s p h =
    let same : (None, c ∷ s) ≡ p = cc h in
    cut_same (c ∷ s) (c ∷ s) p.1 (cut_none (c ∷ s)) (sym (ap (λ (q : Option ℕ × List ℕ). q.1) same))

cut_precision : (s : List ℕ) (p : Option ℕ × List ℕ) → precision_in s ≡ Ok p → Cut s p.1
cut_precision [] p h =
    let same : (None, []) ≡ p = cc h in
    cut_same [] [] p.1 (cut_none []) (sym (ap (λ (q : Option ℕ × List ℕ). q.1) same))
cut_precision (c ∷ s) p h = cut_point (eqb c 46) c s p h

-- the letters of the kinds are of ASCII
other : (c d : ℕ) → 128 ≤ c → d < 128 → eqb c d ≡ false
other c d large small = ne_eqb c d (λ e. absurd (omega (arith, e)))

refused_past : (c : ℕ) → 128 ≤ c → kind_of c ≡ refused
refused_past c h =
    rw (
      other c 115 h (lit< tt),
      other c 100 h (lit< tt),
      other c 105 h (lit< tt),
      other c 120 h (lit< tt),
      other c 88 h (lit< tt),
      other c 111 h (lit< tt),
      other c 99 h (lit< tt),
      other c 102 h (lit< tt),
      other c 70 h (lit< tt),
      other c 101 h (lit< tt),
      other c 69 h (lit< tt),
      other c 103 h (lit< tt),
      other c 71 h (lit< tt),
    )

known_by : (b : Bool) (c : ℕ) (kind : Kind) → ltb c 128 ≡ b → kind_of c ≡ Ok kind → c < 128
known_by true c kind small h = ltb-true c 128 small
known_by false c kind small h =
    let large : 128 ≤ c = ltb-false c 128 small in
    let never = sym (refused_past c large) ∙ h in
    absurd (cc never)

known : (c : ℕ) (kind : Kind) → kind_of c ≡ Ok kind → c < 128
known c kind h = known_by (ltb c 128) c kind refl h

-- a text ends behind this character of another, which is of ASCII
abbrev pub Ends : List ℕ → List ℕ → Type 0
Ends s t = (k : ℕ) × (k < length s) × (get_or s k 0 < 128) × (t ≡ drop (k + 1) s)

ends_behind : (s r t : List ℕ) (c : ℕ) → Cut s r → r ≡ c ∷ t → c < 128 → Ends s t
ends_behind s r t c (k, within, is) letter ascii =
    let stands : drop k s ≡ c ∷ t = sym is ∙ letter in
    let first : get_or s k 0 ≡ c = sym (get_or-drop k s 0 0 ∙ ap (λ (m : ℕ). get_or s m 0) (add-zero k)) ∙ ap (λ (x : List ℕ). get_or x 0 0) stands in
    let size : length (drop k s) ≡ length (c ∷ t) = ap length stands in
    (k, omega (arith, size, length-drop k s), omega (arith, first, ascii), sym (ap (drop 1) stands) ∙ drop-drop 1 k s)

abbrev of_kind : List ℕ → Kind → Kind × List ℕ
of_kind s kind = (kind, s)

ends_kind : (s r : List ℕ) (k : Kind × List ℕ) → Cut s r → kind_in r ≡ Ok k → Ends s k.1
ends_kind s [] k cut h = absurd (cc h)
ends_kind s (c ∷ r) k cut h =
    let read = after_last (kind_of c) (of_kind r) k h in
    ends_behind s (c ∷ r) k.1 c cut (ap (λ (q : Kind × List ℕ). c ∷ q.1) read.2) (known c read.0 read.1)

abbrev with_kind : List ℕ → ℕ → Option ℕ → Kind × List ℕ → Directive × List ℕ
with_kind s width precision kind = (directive (flags_in (front parts.Flags s)) width precision kind.0, kind.1)

abbrev with_precision : List ℕ → ℕ → Option ℕ × List ℕ → Result (Directive × List ℕ) ErrorKind
with_precision s width precision = after (kind_in precision.1) (λ kind. Ok (with_kind s width precision.0 kind))

abbrev with_width : List ℕ → ℕ × List ℕ → Result (Directive × List ℕ) ErrorKind
with_width s width = after (precision_in width.1) (with_precision s width.0)

ends_same : (s t u : List ℕ) → Ends s t → u ≡ t → Ends s u
ends_same s t u (k, within, ascii, is) same = (k, within, ascii, same ∙ is)

ends_known : (s : List ℕ) (f : Kind × List ℕ → Directive × List ℕ) (k : Kind × List ℕ) (d : Directive × List ℕ)
    → ((q : Kind × List ℕ) → (f q).1 ≡ q.1) → Ends s k.1 → f k ≡ d → Ends s d.1
ends_known s f k d rest ends is = ends_same s k.1 d.1 ends (sym (ap (λ (q : Directive × List ℕ). q.1) is) ∙ rest k)

ends_directive : (s : List ℕ) (d : Directive × List ℕ) → directive_in s ≡ Ok d → Ends s d.1
unfolding directive_in
ends_directive s d h =
    let one = after_ok (width_in (behind parts.Flags s)) (with_width s) d h in
    let two = after_ok (precision_in one.0.1) (with_precision s one.0.0) d one.2 in
    let three = after_last (kind_in two.0.1) (with_kind s one.0.0 two.0.0) d two.2 in
    let flags = cut_twice s (behind parts.Flags s) one.0.1 (cut_behind parts.Flags s) (cut_width (behind parts.Flags s) one.0 one.1) in
    let cut = cut_twice s one.0.1 two.0.1 flags (cut_precision one.0.1 two.0 two.1) in
    ends_known s (with_kind s one.0.0 two.0.0) three.0 d (λ (k : Kind × List ℕ). refl) (ends_kind s two.0.1 three.0 cut three.1) three.2

-- the text behind a directive
pub ends_read : (s bytes rest : List ℕ) (d : Directive) → bytes ≡ s → directive_in bytes ≡ Ok (d, rest) → Ends s rest
ends_read s bytes rest d same h = ends_directive s (d, rest) (ap directive_in (sym same) ∙ h)

pub shorter : (s t : List ℕ) → Ends s t → length t + 1 ≤ length s
shorter s t (k, within, ascii, is) = omega (arith, ap length is, length-drop (k + 1) s)

place_is : (s t : List ℕ) (k : ℕ) → k < length s → t ≡ drop (k + 1) s → length s - length t ≡ k + 1
place_is s t k within is = omega (arith, ap length is, length-drop (k + 1) s)

pub boundary : (s t : List ℕ) → IsUtf8 s → Ends s t → IsCharBoundary s (length s - length t)
boundary s t utf8 (k, within, ascii, is) =
    subst (IsCharBoundary s) (sym (place_is s t k within is)) (IsCharBoundary-after_ascii s k utf8 within ascii)

pub rest_is : (s t : List ℕ) → Ends s t → drop (length s - length t) s ≡ t
rest_is s t (k, within, ascii, is) = ap (λ (m : ℕ). drop m s) (place_is s t k within is) ∙ sym is
