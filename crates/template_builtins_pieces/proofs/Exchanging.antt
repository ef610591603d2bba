-- What `replacen` makes of a text, as the parts between places with another text between them.
use Rattle.std.proofs.Common.{◌≡◌, ◌⊎◌, inl, inr, ℕ, zero, suc, ◌+◌, ◌<◌, ◌≤◌, List, [], ◌∷◌, ◌++◌, length, take, drop, Bool, cond, None, Some, Bor, ne_eqb, refl, sym, ap, subst, ◌∙◌, arith, append-nil, length-append, length-drop, length-take, chars, encode_utf8, IsUtf8}
use Rattle.std.specs.List.{join_by}
use Rattle.std.specs.Str.Pattern.{FindsText, HasTextAt}
use Rattle.std.specs.Str.Replace.{ReplacesFirstMatches}
use Rattle.std.proofs.lemmas.List.{nil_from_length}
use Rattle.std.proofs.lemmas.Str.{IsUtf8-past_char, chars_past_char, chars-nil, encodes-chars}
use Rattle.template_builtins_texts.specs.Replacing.{parts_between, replaced, spread}
use Rattle.template_builtins_texts.proofs.Places.{replaced_last, replaced_next, replaced_no_more}

abbrev Replaces : List ℕ → ℕ → Bor (List ℕ) → List ℕ → List ℕ → Type 0
Replaces = ReplacesFirstMatches (λ (p : Bor (List ℕ)). FindsText p.now) (λ p q. q.now ≡ p.now)

abbrev same : List ℕ → List ℕ
same s = s

-- a place in a text is not past its end
fits : (old s : List ℕ) (i j : ℕ) → 0 < length old → HasTextAt old s i j → (i ≤ j) × (length (take i s) ≡ i) × (length (drop j s) + j ≡ length s)
fits old s i j some there =
    let e = ap length there.split in
    let le : i + length old ≤ length s = omega (arith, some, e, length-append old (drop j s), length-drop i s, length-drop j s, there.ends) in (
      omega (arith, there.ends),
      length-take i s ∙ omega (arith, le),
      omega (arith, length-drop j s, le, there.ends),
    )

between : (p : Bor (List ℕ)) (old new s out : List ℕ) (n : ℕ) → p.now ≡ old → 0 < length old → Replaces new n p s out
    → out ≡ join_by same new (parts_between old n s)
between p old new s out zero is some made = made ∙ sym (replaced_no_more same old new s 0 refl)
between p old new s out (suc n) is some (inl (finds, made)) =
    made ∙ sym (replaced_last same old new s (suc n) (subst (λ (x : List ℕ). FindsText x s None) is finds))
between p old new s out (suc n) is some (inr (a, b, q, rest, finds, keeps, inl (less, on), made)) =
    let found : FindsText old s (Some (a, b)) = subst (λ (x : List ℕ). FindsText x s (Some (a, b))) is finds in
    let room = fits old s a b some found.1 in
    made
    ∙ ap (λ (x : List ℕ). take a s ++ (new ++ x)) (between q old new (drop b s) rest n (keeps ∙ is) some on)
    ∙ sym (replaced_next same old new s (take a s) (drop b s) n (suc n) some refl (a, b, found, refl, refl, room.0, room.1, room.2))
between p old new s out (suc n) is some (inr (a, b, q, rest, finds, keeps, inr (same_place, more), made)) =
    let found : FindsText old s (Some (a, b)) = subst (λ (x : List ℕ). FindsText x s (Some (a, b))) is finds in
    absurd (omega (arith, some, found.1.ends, same_place))

-- an empty text stands at the start
at_start : (s : List ℕ) (a b : ℕ) → FindsText [] s (Some (a, b)) → (a ≡ 0) × (b ≡ 0)
at_start s zero b finds = (refl, finds.1.ends)
at_start s (suc a) b finds = absurd (finds.0 0 (omega arith) s refl)

-- what is made of the rest behind a place at the start
spread_step : (q : Bor (List ℕ)) (new s rest : List ℕ) (n a b : ℕ) → IsUtf8 s → a ≡ 0 → b ≡ 0
    → ((t more : List ℕ) → IsUtf8 t → Replaces new n q t more → more ≡ spread same new n (chars t))
    → ((a < b) × Replaces new n q (drop b s) rest) ⊎ ((a ≡ b) × (((length (drop b s) ≡ 0) × (rest ≡ [])) ⊎ ((c : ℕ) × (t : List ℕ) × (more : List ℕ) × (drop b s ≡ encode_utf8 c ++ t) × Replaces new n q t more × (rest ≡ encode_utf8 c ++ more))))
    → new ++ rest ≡ spread same new (suc n) (chars s)
spread_step q new s rest n a b utf8 first last again (inl (less, on)) = absurd (omega (arith, less, first, last))
spread_step q new s rest n a b utf8 first last again (inr (eq, inl (empty, none))) =
    let nil : s ≡ [] = nil_from_length s (sym (ap (λ (i : ℕ). length (drop i s)) last) ∙ empty) in
    ap (λ (x : List ℕ). new ++ x) none ∙ append-nil new ∙ sym (ap (spread same new (suc n)) (ap chars nil ∙ chars-nil))
spread_step q new s rest n a b utf8 first last again (inr (eq, inr (c, t, more, parts, on, rest_is))) =
    let cut : s ≡ encode_utf8 c ++ t = sym (ap (λ (i : ℕ). drop i s) last) ∙ parts in
    ap (λ (x : List ℕ). new ++ x) (rest_is ∙ ap (λ (x : List ℕ). encode_utf8 c ++ x) (again t more (IsUtf8-past_char s t c utf8 cut) on))
    ∙ sym (ap (spread same new (suc n)) (chars_past_char s t c utf8 cut))

spread_made : (p : Bor (List ℕ)) (new s out : List ℕ) (n : ℕ) → p.now ≡ [] → IsUtf8 s → Replaces new n p s out → out ≡ spread same new n (chars s)
spread_made p new s out zero is utf8 made = made ∙ sym (encodes-chars s utf8)
spread_made p new s out (suc n) is utf8 (inl (finds, made)) =
    let nowhere : FindsText [] s None = subst (λ (x : List ℕ). FindsText x s None) is finds in absurd (nowhere 0 (omega arith) s refl)
spread_made p new s out (suc n) is utf8 (inr (a, b, q, rest, finds, keeps, goes, made)) =
    let place = at_start s a b (subst (λ (x : List ℕ). FindsText x s (Some (a, b))) is finds) in
    made
    ∙ ap (λ (i : ℕ). take i s ++ (new ++ rest)) place.0
    ∙ spread_step q new s rest n a b utf8 place.0 place.1 (λ t more u on. spread_made q new t more n (keeps ∙ is) u on) goes

pub replaces : (p : Bor (List ℕ)) (new s out : List ℕ) (n : ℕ) → IsUtf8 s → Replaces new n p s out → out ≡ replaced same p.now new n s
unfolding replaced
replaces p new s out n utf8 made = by_length p.now refl
  where
    by_length : (old : List ℕ) → p.now ≡ old → out ≡ replaced same old new n s
    by_length [] is = spread_made p new s out n is utf8 made
    by_length (b ∷ bs) is =
        between p (b ∷ bs) new s out n is (omega arith) made
        ∙ sym (ap (λ (t : Bool). cond t (spread same new n (chars s)) (join_by same new (parts_between (b ∷ bs) n s))) (ne_eqb (length (b ∷ bs)) 0 (λ z. omega (arith, z))))
