-- Text literals: one closing quote, one escape, one text, or none.
use Rattle.std.proofs.Common.{◌≡◌, ℕ, suc, ◌<◌, ◌⊎◌, inl, inr, List, ◌∷◌, ◌++◌, length, drop, slice_index, Some, refl, sym, ◌∙◌, ap, subst, arith}
use Rattle.std.specs.Prelude.{encode_utf8}
use Rattle.template_compiler_tokens.specs.Texts.{IsClose, close_here, close_behind, close_behind_escape, named_escape, HasByte, HasUnit, IsEscape, named, byte, unit, pair, Unescapes, unescapes_end, unescapes_byte, unescapes_escape}

pub one_close : {q : ℕ} {s : List ℕ} {n m : ℕ} → IsClose q s n → IsClose q s m → n ≡ m
one_close (close_here e) (close_here f) = refl
one_close (close_here e) (close_behind f g h) = absurd (f e)
one_close (close_here e) (close_behind_escape f g h) = absurd (f e)
one_close (close_behind e f h) (close_here g) = absurd (e g)
one_close (close_behind e f h) (close_behind g i k) = ap suc (one_close h k)
one_close (close_behind e f h) (close_behind_escape g i k) = absurd (f i)
one_close (close_behind_escape e f h) (close_here g) = absurd (e g)
one_close (close_behind_escape e f h) (close_behind g i k) = absurd (i f)
one_close (close_behind_escape e f h) (close_behind_escape g i k) = ap (λ n. suc (suc n)) (one_close h k)

pub close_within : {q : ℕ} {s : List ℕ} {n : ℕ} → IsClose q s n → n < length s
close_within (close_here e) = omega arith
close_within (close_behind e f h) = let p = close_within h in omega arith
close_within (close_behind_escape e f h) = let p = close_within h in omega arith

pub same_byte : {s : List ℕ} {i n m : ℕ} → HasByte s i n → HasByte s i m → n ≡ m
same_byte h k = h.value ∙ sym k.value

pub same_unit : {s : List ℕ} {i n m : ℕ} → HasUnit s i n → HasUnit s i m → n ≡ m
same_unit h k =
    let high = same_byte h.high_byte k.high_byte in
    let low = same_byte h.low_byte k.low_byte in
    h.value ∙ omega (arith, k.value)

not_named : (s : List ℕ) {c : ℕ} → (slice_index s 0 ≡ 120) ⊎ (slice_index s 0 ≡ 117) → named_escape (slice_index s 0) ≡ Some c → ⊥
unfolding named_escape
not_named s (inl e) f = let g = rw e at f in cc
not_named s (inr e) f = let g = rw e at f in cc

pub one_escape : (s : List ℕ) {c d n m : ℕ} → IsEscape s c n → IsEscape s d m → (c ≡ d) × (n ≡ m)
one_escape s (named e) (named f) = (cc, refl)
one_escape s (named e) (byte f h) = absurd (not_named s (inl f) e)
one_escape s (named e) (unit f h a b) = absurd (not_named s (inr f) e)
one_escape s (named e) (pair f h a g i k b l) = absurd (not_named s (inr f) e)
one_escape s (byte e h) (named f) = absurd (not_named s (inl e) f)
one_escape s (byte e h) (byte f k) = (same_byte h k, refl)
one_escape s (byte e h) (unit f k a b) = absurd (omega arith)
one_escape s (byte e h) (pair f k a g i l b m) = absurd (omega arith)
one_escape s (unit e h a b) (named f) = absurd (not_named s (inr e) f)
one_escape s (unit e h a b) (byte f k) = absurd (omega arith)
one_escape s (unit e h a b) (unit f k a' b') = (same_unit h k, refl)
one_escape s (unit e h a b) (pair f k a' g i l b' m) = absurd (a (rw (same_unit h k) a'))
one_escape s (pair e h a g i k b l) (named f) = absurd (not_named s (inr e) f)
one_escape s (pair e h a g i k b l) (byte f k') = absurd (omega arith)
one_escape s (pair e h a g i k b l) (unit f k' a' b') = absurd (a' (rw (same_unit k' h) a))
one_escape s (pair e h a g i k b l) (pair e' h' a' g' i' k' b' l') =
    let high = same_unit h h' in
    let low = same_unit k k' in
    (l ∙ omega (arith, l'), refl)

pub one_text : {s t u : List ℕ} → Unescapes s t → Unescapes s u → t ≡ u
one_text unescapes_end unescapes_end = refl
one_text (unescapes_byte {b = b} e h) (unescapes_byte f k) = ap (λ t. b ∷ t) (one_text h k)
one_text (unescapes_byte e h) (unescapes_escape f k g l m) = absurd (e f)
one_text (unescapes_escape f k g l m) (unescapes_byte e h) = absurd (e f)
one_text (unescapes_escape {c = c} {s = s} {behind = r} {text = v} e h f k g) (unescapes_escape {c = d} {behind = r'} {text = w} e' h' f' k' g') =
    let same = one_escape s h h' in
    let rest : r ≡ r' = f ∙ ap (λ n. drop n s) same.1 ∙ sym f' in
    let text : v ≡ w = one_text (subst (λ x. Unescapes x v) rest k) k' in
    g ∙ ap (λ x. encode_utf8 x ++ v) same.0 ∙ ap (λ x. encode_utf8 d ++ x) text ∙ sym g'
