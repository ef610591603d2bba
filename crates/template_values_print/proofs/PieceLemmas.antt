-- Lemmas on texts that are written piece by piece.
use Rattle.std.proofs.Common.{◌≡◌, ℕ, zero, suc, ◌-◌, ◌<◌, ◌≤◌, List, [], ◌∷◌, ◌++◌, length, take, drop, get_or, refl, sym, ◌∙◌, ap, append_assoc, append-nil, length-append, length-drop, subst, arith, inr, Bool, true, false, if◌then◌else◌, ◌==◌, codes, Result, Ok, Err}
use Rattle.std.proofs.Math.Seq.{take-suc}
use native.Mathlib.Numerals.{unary_clauses}
use Rattle.std.specs.List.{flat_map}
use Rattle.std.specs.Str.{IsUtf8, IsCharBoundary}
use Rattle.std.proofs.lemmas.Str.{IsUtf8-from_ascii, IsCharBoundary-from_take}
use Rattle.json.proofs.Printed.Utf8.{IsUtf8-are_ascii}
use Rattle.std.proofs.lemmas.List.Concat.{flat_map-append}
use Rattle.template_values_errors.specs.declared.ErrorKind.{ErrorKind}
use Rattle.template_values_model.specs.Fault.{Fault}
use Rattle.template_values_forms.specs.Answers.{AppendsOrRefuses, joined, mapped}
use Rattle.template_values_forms.specs.Escapes.{html_byte, html}
use Rattle.template_values_print.specs.Pieces.{encoded, Begins, Writes}
use Rattle.template_values_print.specs.declared.pieces.Markup.{Markup}
use Rattle.template_values_print.specs.declared.pieces.Markup.TheVariants.{Plain, Html}

pub encoded-append : (m : Markup) (s t : List ℕ) → encoded m (s ++ t) ≡ encoded m s ++ encoded m t
encoded-append Plain s t = refl
encoded-append Html s t = flat_map-append html_byte s t

pub Begins-refl : (b : List ℕ) → Begins b b
Begins-refl b = ([], sym (append-nil b))

pub Begins-append : (b m s : List ℕ) → Begins b m → Begins b (m ++ s)
Begins-append b m s (more, is) = (more ++ s, ap (λ (x : List ℕ). x ++ s) is ∙ append_assoc b more s)

pub Begins-wrote : (b m a s : List ℕ) → Begins b m → a ≡ m ++ s → Begins b a
Begins-wrote b m a s (more, is) wrote = (more ++ s, wrote ∙ ap (λ (x : List ℕ). x ++ s) is ∙ append_assoc b more s)

pub Begins-trans : (b m a : List ℕ) → Begins b m → Begins m a → Begins b a
Begins-trans b m a (more, is) (rest, ends) = (more ++ rest, ends ∙ ap (λ (x : List ℕ). x ++ rest) is ∙ append_assoc b more rest)

-- a text after a text
pub Writes-then : (k : Markup) (b m a : List ℕ) (r q : Result (List ℕ) Fault) (res : Result (Unit {0}) (List ErrorKind)) → Writes k b r (Ok tt) m → Writes k m q res a → Writes k b (joined r q) res a
Writes-then k b m a (Ok s) (Ok t) (Ok u) x y = y ∙ ap (λ (z : List ℕ). z ++ encoded k t) x ∙ append_assoc b (encoded k s) (encoded k t) ∙ ap (λ (z : List ℕ). b ++ z) (sym (encoded-append k s t))
Writes-then k b m a (Ok s) (Ok t) (Err ks) x (memory, begins) = (memory, Begins-trans b m a (encoded k s, x) begins)
Writes-then k b m a (Ok s) (Err kind) (Ok u) x y = y
Writes-then k b m a (Ok s) (Err kind) (Err ks) x (why, begins) = (why, Begins-trans b m a (encoded k s, x) begins)
Writes-then k b m a (Err kind) q res x y = absurd x

-- a refusal before the second text
pub Writes-stop : (k : Markup) (b a : List ℕ) (r q : Result (List ℕ) Fault) (ks : List ErrorKind) → Writes k b r (Err ks) a → Writes k b (joined r q) (Err ks) a
Writes-stop k b a (Ok s) (Ok t) ks x = x
Writes-stop k b a (Ok s) (Err kind) ks (memory, begins) = (inr memory, begins)
Writes-stop k b a (Err kind) q ks x = x

pub Writes-nothing : (k : Markup) (b : List ℕ) → Writes k b (Ok []) (Ok tt) b
Writes-nothing Plain b = sym (append-nil b)
Writes-nothing Html b = sym (append-nil b)

sub-sucs : (i a : ℕ) → suc i - suc a ≡ i - a
sub-sucs i a = omega arith

take-next-from : (s : List ℕ) (a i : ℕ) → a ≤ i → i < length s → take (suc i - a) (drop a s) ≡ take (i - a) (drop a s) ++ get_or s i 0 ∷ []
take-next-from s zero i le h = simp unary_clauses (take-suc s i 0 h)
take-next-from [] (suc a) i le h = absurd (omega (arith, h))
take-next-from (c ∷ s) (suc a) zero le h = absurd (omega (arith, le))
take-next-from (c ∷ s) (suc a) (suc i) le h =
    ap (λ (n : ℕ). take n (drop a s)) (sub-sucs (suc i) a)
    ∙ take-next-from s a i (omega (arith, le)) (omega (arith, h))
    ∙ ap (λ (n : ℕ). take n (drop a s) ++ get_or s i 0 ∷ []) (sym (sub-sucs i a))

take-past : (s : List ℕ) (n : ℕ) → length s ≤ n → take n s ≡ s
take-past [] zero h = refl
take-past [] (suc n) h = refl
take-past (c ∷ s) zero h = absurd (omega (arith, h))
take-past (c ∷ s) (suc n) h = ap (λ (x : List ℕ). c ∷ x) (take-past s n (omega (arith, h)))

pub grown : (k : Markup) (o x y : List ℕ) → o ++ encoded k (x ++ y) ≡ (o ++ encoded k x) ++ encoded k y
grown k o x y = ap (λ (z : List ℕ). o ++ z) (encoded-append k x y) ∙ sym (append_assoc o (encoded k x) (encoded k y))

pub flat_map-next : (f : ℕ → List ℕ) (s : List ℕ) (i : ℕ) → i < length s → flat_map f (take (suc i) s) ≡ flat_map f (take i s) ++ f (get_or s i 0)
flat_map-next f s i h =
    ap (flat_map f) (take-suc s i 0 h)
    ∙ flat_map-append f (take i s) (get_or s i 0 ∷ [])
    ∙ ap (λ (z : List ℕ). flat_map f (take i s) ++ z) (append-nil (f (get_or s i 0)))

nothing_more : (k : Markup) (s : List ℕ) → s ++ encoded k [] ≡ s
nothing_more Plain s = append-nil s
nothing_more Html s = append-nil s

sub-self : (j : ℕ) → j - j ≡ 0
sub-self j = omega arith

-- a byte that something else stands for
pub block_ends : (k : Markup) (f : ℕ → List ℕ) (s out old : List ℕ) (a i : ℕ) → i < length s → out ++ encoded k (take (i - a) (drop a s)) ≡ old ++ encoded k (flat_map f (take i s)) → (out ++ encoded k (take (i - a) (drop a s))) ++ encoded k (f (get_or s i 0)) ≡ old ++ encoded k (flat_map f (take (suc i) s))
block_ends k f s out old a i h is =
    ap (λ (z : List ℕ). z ++ encoded k (f (get_or s i 0))) is
    ∙ sym (grown k old (flat_map f (take i s)) (f (get_or s i 0)))
    ∙ ap (λ (z : List ℕ). old ++ encoded k z) (sym (flat_map-next f s i h))

-- a byte that stands for itself
pub block_goes_on : (k : Markup) (f : ℕ → List ℕ) (s out old : List ℕ) (a i : ℕ) → a ≤ i → i < length s → f (get_or s i 0) ≡ get_or s i 0 ∷ [] → out ++ encoded k (take (i - a) (drop a s)) ≡ old ++ encoded k (flat_map f (take i s)) → out ++ encoded k (take (suc i - a) (drop a s)) ≡ old ++ encoded k (flat_map f (take (suc i) s))
block_goes_on k f s out old a i le h same is =
    ap (λ (z : List ℕ). out ++ encoded k z) (take-next-from s a i le h)
    ∙ grown k out (take (i - a) (drop a s)) (get_or s i 0 ∷ [])
    ∙ ap (λ (z : List ℕ). (out ++ encoded k (take (i - a) (drop a s))) ++ encoded k z) (sym same)
    ∙ block_ends k f s out old a i h is

-- the last block
pub block_is_last : (k : Markup) (f : ℕ → List ℕ) (s out old : List ℕ) (a i : ℕ) → a ≤ i → length s ≤ i → out ++ encoded k (take (i - a) (drop a s)) ≡ old ++ encoded k (flat_map f (take i s)) → out ++ encoded k (drop a s) ≡ old ++ encoded k (flat_map f s)
block_is_last k f s out old a i le h is =
    ap (λ (z : List ℕ). out ++ encoded k z) (sym (take-past (drop a s) (i - a) (omega (arith, length-drop a s))))
    ∙ is
    ∙ ap (λ (z : List ℕ). old ++ encoded k (flat_map f z)) (take-past s i h)

-- a step of the loop at a byte that stands for itself
pub loop_goes_on : (k : Markup) (f : ℕ → List ℕ) (s out old : List ℕ) (a i j : ℕ) → j ≡ suc i → a ≤ i → i < length s → f (get_or s i 0) ≡ get_or s i 0 ∷ [] → out ++ encoded k (take (i - a) (drop a s)) ≡ old ++ encoded k (flat_map f (take i s)) → out ++ encoded k (take (j - a) (drop a s)) ≡ old ++ encoded k (flat_map f (take j s))
loop_goes_on k f s out old a i j e le h same is = rw e (block_goes_on k f s out old a i le h same is)

-- a step at a byte that something else stands for, after the block before it was written
pub loop_ends_block : (k : Markup) (f : ℕ → List ℕ) (s out old after : List ℕ) (a i j : ℕ) → j ≡ suc i → i < length s → out ++ encoded k (take (i - a) (drop a s)) ≡ old ++ encoded k (flat_map f (take i s)) → after ≡ (out ++ encoded k (take (i - a) (drop a s))) ++ encoded k (f (get_or s i 0)) → after ++ encoded k (take (j - j) (drop j s)) ≡ old ++ encoded k (flat_map f (take j s))
loop_ends_block k f s out old after a i j e h is made =
    ap (λ (z : ℕ). after ++ encoded k (take z (drop j s))) (sub-self j)
    ∙ nothing_more k after
    ∙ made
    ∙ rw e (block_ends k f s out old a i h is)

-- the block before an escape, and the escape
pub wrote_both : (k : Markup) (o m a block escape made : List ℕ) → m ≡ o ++ encoded k block → a ≡ m ++ encoded k escape → made ≡ escape → a ≡ (o ++ encoded k block) ++ encoded k made
wrote_both k o m a block escape made x y e =
    y ∙ ap (λ (z : List ℕ). z ++ encoded k escape) x ∙ ap (λ (z : List ℕ). (o ++ encoded k block) ++ encoded k z) (sym e)

one_is_ascii : (b : ℕ) → b < 128 → (i : ℕ) → get_or (b ∷ []) i 0 < 128
one_is_ascii b h zero = h
one_is_ascii b h (suc i) = omega arith

pub IsUtf8-one : (b : ℕ) → b < 128 → IsUtf8 (b ∷ [])
IsUtf8-one b h = IsUtf8-from_ascii (b ∷ []) (one_is_ascii b h)

pub IsUtf8-nil : IsUtf8 []
IsUtf8-nil = IsUtf8-are_ascii [] refl

either_is_text : (c : Bool) (s t : List ℕ) → IsUtf8 s → IsUtf8 t → IsUtf8 (if c then s else t)
either_is_text true s t x y = x
either_is_text false s t x y = y

-- what stands for a byte that is a character
pub html_byte-utf8 : (b : ℕ) → b < 128 → IsUtf8 (html_byte b)
html_byte-utf8 b h =
    either_is_text (b == 60) (codes "&lt;") _ (IsUtf8-are_ascii (codes "&lt;") refl)
    (either_is_text (b == 62) (codes "&gt;") _ (IsUtf8-are_ascii (codes "&gt;") refl)
    (either_is_text (b == 38) (codes "&amp;") _ (IsUtf8-are_ascii (codes "&amp;") refl)
    (either_is_text (b == 34) (codes "&quot;") _ (IsUtf8-are_ascii (codes "&quot;") refl)
    (either_is_text (b == 39) (codes "&#x27;") _ (IsUtf8-are_ascii (codes "&#x27;") refl)
    (either_is_text (b == 47) (codes "&#x2f;") _ (IsUtf8-are_ascii (codes "&#x2f;") refl) (IsUtf8-one b h))))))

-- a text that waits, and one more behind it
pub waits_behind : (out waits after before more : List ℕ) → out ++ waits ≡ before → after ≡ waits ++ more → out ++ after ≡ before ++ more
waits_behind out waits after before more x y =
    ap (λ (z : List ℕ). out ++ z) y ∙ sym (append_assoc out waits more) ∙ ap (λ (z : List ℕ). z ++ more) x

take-front : (b more : List ℕ) → take (length b) (b ++ more) ≡ b
take-front [] more = refl
take-front (x ∷ b) more = ap (λ (z : List ℕ). x ∷ z) (take-front b more)

pub Begins-take : (b a : List ℕ) → Begins b a → take (length b) a ≡ b
Begins-take b a (more, is) = ap (take (length b)) is ∙ take-front b more

-- after a text there is a place to cut at
pub Begins-boundary : (b a : List ℕ) → IsUtf8 b → IsUtf8 a → Begins b a → IsCharBoundary a (length b)
Begins-boundary b a text whole begins =
    IsCharBoundary-from_take a (length b) whole (within begins) (subst IsUtf8 (sym (Begins-take b a begins)) text)
  where
    within : Begins b a → length b ≤ length a
    within (more, is) = omega (arith, ap length is, length-append b more)

pub Writes-begins : (k : Markup) (b a : List ℕ) (r : Result (List ℕ) Fault) (ks : List ErrorKind) → Writes k b r (Err ks) a → Begins b a
Writes-begins k b a (Ok s) ks (memory, begins) = begins
Writes-begins k b a (Err kind) ks (why, begins) = begins

-- a whole text is appended
pub AppendsOrRefuses-whole : (b a : List ℕ) (r : Result (List ℕ) Fault) (u : Unit {0}) → Writes Plain b r (Ok u) a → AppendsOrRefuses b r (Ok u) a
AppendsOrRefuses-whole b a (Ok s) u w = w
AppendsOrRefuses-whole b a (Err kind) u w = w

-- what was written is cut off
pub AppendsOrRefuses-cut : (b m a : List ℕ) (r : Result (List ℕ) Fault) (ks : List ErrorKind) → Writes Plain b r (Err ks) m → a ≡ take (length b) m → AppendsOrRefuses b r (Err ks) a
AppendsOrRefuses-cut b m a (Ok s) ks (memory, begins) cut = (memory, cut ∙ Begins-take b m begins)
AppendsOrRefuses-cut b m a (Err kind) ks (why, begins) cut = (why, cut ∙ Begins-take b m begins)

-- a text with no markup
pub Writes-unmarked : (b a s : List ℕ) (res : Result (Unit {0}) (List ErrorKind)) → html s ≡ s → Writes Plain b (Ok s) res a → Writes Html b (Ok s) res a
Writes-unmarked b a s (Ok u) same w = w ∙ ap (λ (z : List ℕ). b ++ z) (sym same)
Writes-unmarked b a s (Err ks) same w = w

-- a text written with references is the text of the references
pub Writes-html : (b a : List ℕ) (r : Result (List ℕ) Fault) (res : Result (Unit {0}) (List ErrorKind)) → Writes Html b r res a → Writes Plain b (mapped html r) res a
Writes-html b a (Ok s) (Ok u) w = w
Writes-html b a (Ok s) (Err ks) w = w
Writes-html b a (Err kind) (Ok u) w = w
Writes-html b a (Err kind) (Err ks) w = w
