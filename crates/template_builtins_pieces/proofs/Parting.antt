-- Texts cut at the places where another stands, part by part.
use Rattle.std.proofs.Common.{◌≡◌, ℕ, zero, suc, ◌+◌, ◌-◌, ◌<◌, List, [], ◌∷◌, ◌++◌, length, length-append, length-drop, take, drop, Bool, true, false, true≢false, cond, ◌&&◌, nat_lt, Option, None, Some, MatchOption, Bor, refl, sym, ap, subst, ◌∙◌, arith, lt-ltb}
use Rattle.std.specs.Str.Iter.{splitn_count, splitn_parts, splitn_steps, split_has_more, split_pattern, split_text, rsplitn_count, rsplitn_parts, rsplitn_steps, rsplit_has_more, rsplit_pattern, rsplit_text}
use Rattle.std.specs.Str.Pattern.{FindsText, RFindsText, IsSplitAtFirstMatch, IsSplitAtLastMatch, SplitsAroundMatch}
use Rattle.std.proofs.lemmas.Iterator.{YieldsList}
use Rattle.std.proofs.lemmas.Iterator.Splits.{YieldsList-from_shown_while}
use Rattle.std.specs.declared.str.SplitN.{SplitN}
use Rattle.std.specs.declared.str.RSplitN.{RSplitN}
use Rattle.template_builtins_texts.specs.Replacing.{parts_between, place_of}
use Rattle.template_builtins_texts.proofs.Places.{place_none, place_some}
use Rattle.template_builtins_pieces.specs.Cuts.{last_place, parts_back}
use Rattle.template_builtins_pieces.specs.Partitions.{parted, three_texts}
use Rattle.template_builtins_pieces.specs.declared.splitting.Side.TheVariants as side
use Rattle.template_builtins_pieces.proofs.Places.{last_none, last_some}

one_part : (sep s t x : List ℕ) (n : ℕ) (lives : Bool) → 0 < length sep → IsSplitAtFirstMatch (FindsText sep) s x lives t
    → parts_between sep (suc n) s ≡ x ∷ cond lives (parts_between sep n t) []
one_part sep s t x n lives some (fits, (o, finds, cut)) = at o finds cut
  where
    at : (o : Option (ℕ × ℕ)) → FindsText sep s o → MatchOption o ((x ≡ s) × (lives ≡ false)) (λ q. 0 < q.1 → (x ≡ take q.0 s) × (lives ≡ true) × (t ≡ drop q.1 s))
        → parts_between sep (suc n) s ≡ x ∷ cond lives (parts_between sep n t) []
    at None finds cut = rw (place_none sep s finds, cut.0, cut.1) refl
    at (Some (i, j)) finds cut =
        let goes = cut (omega (arith, some, finds.1.ends)) in
        rw (place_some sep s (drop j s) i some finds.0 finds.1.split, goes.0, goes.1, goes.2, finds.1.ends) refl

inside : (sep s rest : List ℕ) (i : ℕ) → 0 < length sep → drop i s ≡ sep ++ rest → i < length s
inside sep s rest i some is = omega (arith, some, ap length is, length-append sep rest, length-drop i s)

last_part : (sep s t x : List ℕ) (n : ℕ) (lives : Bool) → 0 < length sep → IsSplitAtLastMatch (RFindsText sep) s x lives t
    → parts_back sep (suc n) s ≡ x ∷ cond lives (parts_back sep n t) []
last_part sep s t x n lives some (fits, (o, finds, cut)) = at o finds cut
  where
    at : (o : Option (ℕ × ℕ)) → RFindsText sep s o → MatchOption o ((x ≡ s) × (lives ≡ false)) (λ q. q.0 < length s → (x ≡ drop q.1 s) × (lives ≡ true) × (t ≡ take q.0 s))
        → parts_back sep (suc n) s ≡ x ∷ cond lives (parts_back sep n t) []
    at None finds cut = rw (last_none sep s finds, cut.0, cut.1) refl
    at (Some (i, j)) finds cut =
        let goes = cut (inside sep s (drop j s) i some finds.1.split) in
        rw (last_some sep s (drop j s) i some finds.0 finds.1.split, goes.0, goes.1, goes.2, finds.1.ends) refl

-- where a part comes by the count that is left, the others come too
comes : (parts : ℕ → List ℕ → List (List ℕ)) (s t x : List ℕ) (n m : ℕ) (live lives : Bool) → parts 0 s ≡ s ∷ []
    → ((k : ℕ) → n ≡ suc (suc k) → parts (suc k) s ≡ x ∷ cond lives (parts k t) []) → m ≡ n - 1 → true ≡ (nat_lt 0 n && live) → (n ≡ 1 → x ≡ s)
    → cond (nat_lt 0 n && live) (parts (n - 1) s) [] ≡ x ∷ cond (nat_lt 0 m && lives) (parts (m - 1) t) []
comes parts s t x zero m live lives whole one less goes last = absurd (true≢false goes)
comes parts s t x (suc zero) m live lives whole one less goes last =
    ap (λ (b : Bool). cond b (parts 0 s) []) (sym goes)
    ∙ whole
    ∙ sym (ap (λ (y : List ℕ). y ∷ []) (last refl))
    ∙ sym (ap (λ (i : ℕ). x ∷ cond (nat_lt 0 i && lives) (parts (i - 1) t) []) less)
comes parts s t x (suc (suc k)) m live lives whole one less goes last =
    let m_is : m ≡ suc k = omega (arith, less) in
    let here : suc (suc k) - 1 ≡ suc k = omega arith in
    let there : suc k - 1 ≡ k = omega arith in
    ap (λ (b : Bool). cond b (parts (suc (suc k) - 1) s) []) (sym goes)
    ∙ ap (λ (i : ℕ). parts i s) here
    ∙ one k refl
    ∙ sym (ap (λ (b : Bool). x ∷ cond (b && lives) (parts k t) []) (lt-ltb 0 (suc k) (omega arith)))
    ∙ sym (ap (λ (i : ℕ). x ∷ cond (nat_lt 0 (suc k) && lives) (parts i t) []) there)
    ∙ sym (ap (λ (i : ℕ). x ∷ cond (nat_lt 0 i && lives) (parts (i - 1) t) []) m_is)

abbrev left_to_come : List ℕ → SplitN (Bor (List ℕ)) → List (List ℕ)
left_to_come sep t =
    cond (nat_lt 0 (splitn_count t) && split_has_more (splitn_parts t)) (parts_between sep (splitn_count t - 1) (split_text (splitn_parts t))) []

-- `splitn` at a text gives the parts between its places
pub yields_parts : {s : SplitN (Bor (List ℕ))} (sep text : List ℕ) (n : ℕ) → 0 < length sep → split_text (splitn_parts s) ≡ text → split_has_more (splitn_parts s) ≡ true
    → (split_pattern (splitn_parts s)).now ≡ sep → splitn_count s ≡ n + 1
    → YieldsList (splitn_steps (λ (p : Bor (List ℕ)). FindsText p.now) (λ p q. q.now ≡ p.now)) (λ x. x.now) s (parts_between sep n text)
yields_parts {s} sep text n some text_is more pattern count =
    subst (YieldsList (splitn_steps (λ (p : Bor (List ℕ)). FindsText p.now) (λ p q. q.now ≡ p.now)) (λ x. x.now) s) whole
    (YieldsList-from_shown_while (splitn_steps (λ (p : Bor (List ℕ)). FindsText p.now) (λ p q. q.now ≡ p.now)) (λ x. x.now) (left_to_come sep)
    (λ t. 0 < splitn_count t → (split_pattern (splitn_parts t)).now ≡ sep)
    (λ t u h k. ap (λ (b : Bool). length (cond b (parts_between sep (splitn_count t - 1) (split_text (splitn_parts t))) [])) (sym k.1))
    (λ t x u h k. (
      (λ l. (k.2.1 (omega (arith, k.0, l))).0 ∙ h (omega (arith, k.0, l))),
      comes (parts_between sep) (split_text (splitn_parts t)) (split_text (splitn_parts u)) x.now (splitn_count t) (splitn_count u)
          (split_has_more (splitn_parts t)) (split_has_more (splitn_parts u)) refl
          (λ i e. one_part sep (split_text (splitn_parts t)) (split_text (splitn_parts u)) x.now i (split_has_more (splitn_parts u)) some
          (subst (λ p. IsSplitAtFirstMatch (FindsText p) (split_text (splitn_parts t)) x.now (split_has_more (splitn_parts u)) (split_text (splitn_parts u))) (h (omega (arith, e))) (k.2.1 (omega (arith, e))).1))
          k.0 k.1 k.2.0,
    ))
    s (λ l. pattern))
  where
    whole : left_to_come sep s ≡ parts_between sep n text
    whole = start (splitn_count s) count
      where
        start : (m : ℕ) → m ≡ n + 1 → cond (nat_lt 0 m && split_has_more (splitn_parts s)) (parts_between sep (m - 1) (split_text (splitn_parts s))) [] ≡ parts_between sep n text
        start m e =
            ap (λ (i : ℕ). cond (nat_lt 0 i && split_has_more (splitn_parts s)) (parts_between sep (i - 1) (split_text (splitn_parts s))) []) e
            ∙ ap (λ (b : Bool). cond (nat_lt 0 (n + 1) && b) (parts_between sep (n + 1 - 1) (split_text (splitn_parts s))) []) more
            ∙ ap (λ (b : Bool). cond (b && true) (parts_between sep (n + 1 - 1) (split_text (splitn_parts s))) []) (lt-ltb 0 (n + 1) (omega arith))
            ∙ ap (λ (i : ℕ). parts_between sep i (split_text (splitn_parts s))) (omega arith)
            ∙ ap (parts_between sep n) text_is

abbrev back_to_come : List ℕ → RSplitN (Bor (List ℕ)) → List (List ℕ)
back_to_come sep t =
    cond (nat_lt 0 (rsplitn_count t) && rsplit_has_more (rsplitn_parts t)) (parts_back sep (rsplitn_count t - 1) (rsplit_text (rsplitn_parts t))) []

-- `rsplitn` gives them from the right
pub yields_back : {s : RSplitN (Bor (List ℕ))} (sep text : List ℕ) (n : ℕ) → 0 < length sep → rsplit_text (rsplitn_parts s) ≡ text → rsplit_has_more (rsplitn_parts s) ≡ true
    → (rsplit_pattern (rsplitn_parts s)).now ≡ sep → rsplitn_count s ≡ n + 1
    → YieldsList (rsplitn_steps (λ (p : Bor (List ℕ)). RFindsText p.now) (λ p q. q.now ≡ p.now)) (λ x. x.now) s (parts_back sep n text)
yields_back {s} sep text n some text_is more pattern count =
    subst (YieldsList (rsplitn_steps (λ (p : Bor (List ℕ)). RFindsText p.now) (λ p q. q.now ≡ p.now)) (λ x. x.now) s) whole
    (YieldsList-from_shown_while (rsplitn_steps (λ (p : Bor (List ℕ)). RFindsText p.now) (λ p q. q.now ≡ p.now)) (λ x. x.now) (back_to_come sep)
    (λ t. 0 < rsplitn_count t → (rsplit_pattern (rsplitn_parts t)).now ≡ sep)
    (λ t u h k. ap (λ (b : Bool). length (cond b (parts_back sep (rsplitn_count t - 1) (rsplit_text (rsplitn_parts t))) [])) (sym k.1))
    (λ t x u h k. (
      (λ l. (k.2.1 (omega (arith, k.0, l))).0 ∙ h (omega (arith, k.0, l))),
      comes (parts_back sep) (rsplit_text (rsplitn_parts t)) (rsplit_text (rsplitn_parts u)) x.now (rsplitn_count t) (rsplitn_count u)
          (rsplit_has_more (rsplitn_parts t)) (rsplit_has_more (rsplitn_parts u)) refl
          (λ i e. last_part sep (rsplit_text (rsplitn_parts t)) (rsplit_text (rsplitn_parts u)) x.now i (rsplit_has_more (rsplitn_parts u)) some
          (subst (λ p. IsSplitAtLastMatch (RFindsText p) (rsplit_text (rsplitn_parts t)) x.now (rsplit_has_more (rsplitn_parts u)) (rsplit_text (rsplitn_parts u))) (h (omega (arith, e))) (k.2.1 (omega (arith, e))).1))
          k.0 k.1 k.2.0,
    ))
    s (λ l. pattern))
  where
    whole : back_to_come sep s ≡ parts_back sep n text
    whole = start (rsplitn_count s) count
      where
        start : (m : ℕ) → m ≡ n + 1 → cond (nat_lt 0 m && rsplit_has_more (rsplitn_parts s)) (parts_back sep (m - 1) (rsplit_text (rsplitn_parts s))) [] ≡ parts_back sep n text
        start m e =
            ap (λ (i : ℕ). cond (nat_lt 0 i && rsplit_has_more (rsplitn_parts s)) (parts_back sep (i - 1) (rsplit_text (rsplitn_parts s))) []) e
            ∙ ap (λ (b : Bool). cond (nat_lt 0 (n + 1) && b) (parts_back sep (n + 1 - 1) (rsplit_text (rsplitn_parts s))) []) more
            ∙ ap (λ (b : Bool). cond (b && true) (parts_back sep (n + 1 - 1) (rsplit_text (rsplitn_parts s))) []) (lt-ltb 0 (n + 1) (omega arith))
            ∙ ap (λ (i : ℕ). parts_back sep i (rsplit_text (rsplitn_parts s))) (omega arith)
            ∙ ap (parts_back sep n) text_is

-- the first place, or the last, parts a text
pub parted_first : (sep s front back : List ℕ) → 0 < length sep → SplitsAroundMatch (FindsText sep) s front back
    → three_texts front sep back ≡ parted side.Left sep s (place_of sep s)
parted_first sep s front back some (i, j, (lacks, there), front_is, back_is, le, len, rest) =
    rw (place_some sep s (drop j s) i some lacks there.split, front_is, back_is, there.ends) refl

pub parted_nowhere : (sep s : List ℕ) → FindsText sep s None → three_texts s [] [] ≡ parted side.Left sep s (place_of sep s)
parted_nowhere sep s finds = rw (place_none sep s finds) refl

pub parted_last : (sep s front back : List ℕ) → 0 < length sep → SplitsAroundMatch (RFindsText sep) s front back
    → three_texts front sep back ≡ parted side.Right sep s (last_place sep s)
parted_last sep s front back some (i, j, (lacks, there), front_is, back_is, le, len, rest) =
    rw (last_some sep s (drop j s) i some lacks there.split, front_is, back_is, there.ends) refl

pub parted_nowhere_last : (sep s : List ℕ) → RFindsText sep s None → three_texts [] [] s ≡ parted side.Right sep s (last_place sep s)
parted_nowhere_last sep s finds = rw (last_none sep s finds) refl
