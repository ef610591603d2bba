-- Lemmas on words.
use Rattle.std.proofs.Common.{◌≡◌, ℕ, zero, suc, ◌+◌, ◌<◌, ◌≤◌, List, [], ◌∷◌, ◌++◌, length, take, drop, map, reverse, Bool, true, Option, refl, sym, ap, subst, ◌∙◌, arith, append_assoc, Bor, chars, encode_utf8, encode_utf8_all, IsUtf8}
use Rattle.std.specs.Char.{IsScalar, is_whitespace, len_utf8}
use Rattle.std.specs.Str.{NonePass, NoCharPasses, skip_leading_whitespace, drop_trailing_whitespace, trim_start, trim_end}
use Rattle.std.specs.Str.Pattern.{FindsBy, HasCharAt, RFindsBy, SplitsAroundMatch}
use Rattle.std.proofs.lemmas.Grind.{common_steps}
use Rattle.std.proofs.lemmas.List.{reverse-append, reverse-reverse, take-append-drop, nil_from_length}
use Rattle.std.proofs.lemmas.Str.{IsUtf8-append, IsUtf8-nil, IsUtf8-drop, IsUtf8-encode, IsUtf8-take, IsCharBoundary-from_drop, chars-nil, chars_from_encodes, encodes-append, encodes-chars, encodes_same}
use lib.Utf8.{low_scalar}
use Rattle.template_builtins_pieces.specs.Reading.{all_shown}
use Rattle.template_builtins_pieces.specs.Words.{before_word, behind_word, first_word, last_word, words_back, words_from}

first_is : (cs ds : List ℕ) (c : ℕ) → NonePass is_whitespace cs → is_whitespace c ≡ true → first_word (cs ++ c ∷ ds) ≡ cs
first_is [] ds c none white = rw white refl
first_is (x ∷ cs) ds c none white = rw none.0 (ap (λ (ws : List ℕ). x ∷ ws) (first_is cs ds c none.1 white))

behind_is : (cs ds : List ℕ) (c : ℕ) → NonePass is_whitespace cs → is_whitespace c ≡ true → behind_word (cs ++ c ∷ ds) ≡ ds
behind_is [] ds c none white = rw white refl
behind_is (x ∷ cs) ds c none white = rw none.0 (behind_is cs ds c none.1 white)

first_all : (cs : List ℕ) → NonePass is_whitespace cs → first_word cs ≡ cs
first_all [] none = refl
first_all (x ∷ cs) none = rw none.0 (ap (λ (ws : List ℕ). x ∷ ws) (first_all cs none.1))

behind_all : (cs : List ℕ) → NonePass is_whitespace cs → behind_word cs ≡ []
behind_all [] none = refl
behind_all (x ∷ cs) none = rw none.0 (behind_all cs none.1)

none_onto : (p : ℕ → Bool) (xs ys : List ℕ) → NonePass p xs → NonePass p ys → NonePass p (xs ++ ys)
none_onto p [] ys h k = k
none_onto p (x ∷ xs) ys h k = (h.0, none_onto p xs ys h.1 k)

none_reversed : (p : ℕ → Bool) (xs : List ℕ) → NonePass p xs → NonePass p (reverse xs)
none_reversed p [] h = tt
none_reversed p (x ∷ xs) h =
    subst (NonePass p) (sym (reverse-append (x ∷ []) xs)) (none_onto p (reverse xs) (x ∷ []) (none_reversed p xs h.1) (h.0, tt))

-- the same from the end
turned : (xs cs : List ℕ) (c : ℕ) → reverse (xs ++ c ∷ cs) ≡ reverse cs ++ c ∷ reverse xs
turned xs cs c =
    reverse-append xs (c ∷ cs)
    ∙ ap (λ (ys : List ℕ). ys ++ reverse xs) (reverse-append (c ∷ []) cs)
    ∙ append_assoc (reverse cs) (c ∷ []) (reverse xs)

last_is : (xs cs : List ℕ) (c : ℕ) → NonePass is_whitespace cs → is_whitespace c ≡ true → last_word (xs ++ c ∷ cs) ≡ cs
last_is xs cs c none white =
    ap (λ (ys : List ℕ). reverse (first_word ys)) (turned xs cs c)
    ∙ ap reverse (first_is (reverse cs) (reverse xs) c (none_reversed is_whitespace cs none) white)
    ∙ reverse-reverse cs

before_is : (xs cs : List ℕ) (c : ℕ) → NonePass is_whitespace cs → is_whitespace c ≡ true → before_word (xs ++ c ∷ cs) ≡ xs
before_is xs cs c none white =
    ap (λ (ys : List ℕ). reverse (behind_word ys)) (turned xs cs c)
    ∙ ap reverse (behind_is (reverse cs) (reverse xs) c (none_reversed is_whitespace cs none) white)
    ∙ reverse-reverse xs

last_all : (cs : List ℕ) → NonePass is_whitespace cs → last_word cs ≡ cs
last_all cs none = ap reverse (first_all (reverse cs) (none_reversed is_whitespace cs none)) ∙ reverse-reverse cs

before_all : (cs : List ℕ) → NonePass is_whitespace cs → before_word cs ≡ []
before_all cs none = ap reverse (behind_all (reverse cs) (none_reversed is_whitespace cs none))

-- the characters of a text around one of them
around : (s : List ℕ) (fs bs : List ℕ) (c i j : ℕ) → IsUtf8 s → encode_utf8_all fs ≡ take i s → encode_utf8_all bs ≡ drop j s → drop i s ≡ encode_utf8 c ++ drop j s
    → chars s ≡ fs ++ c ∷ bs
around s fs bs c i j utf8 front back at =
    sym (chars_from_encodes (fs ++ c ∷ bs) s utf8
    (encodes-append fs (c ∷ bs)
    ∙ ap (λ (x : List ℕ). x ++ encode_utf8_all (c ∷ bs)) front
    ∙ ap (λ (x : List ℕ). take i s ++ (encode_utf8 c ++ x)) back
    ∙ ap (λ (x : List ℕ). take i s ++ x) (sym at)
    ∙ take-append-drop i s))

white_low : (c : ℕ) → is_whitespace c ≡ true → c < 55296
white_low c white = grind (arith, common_steps)

white_scalar : (c : ℕ) → is_whitespace c ≡ true → IsScalar c
white_scalar c white = low_scalar c (white_low c white)

-- both parts around a white space are text
back_utf8 : (s : List ℕ) (c i j : ℕ) → IsUtf8 s → HasCharAt c s i j → IsUtf8 (drop j s)
back_utf8 s c i j utf8 at = rw at.ends (IsUtf8-drop s (i + len_utf8 c) utf8 at.after)

front_utf8 : (s : List ℕ) (c i j : ℕ) → IsUtf8 s → i ≤ length s → is_whitespace c ≡ true → HasCharAt c s i j → IsUtf8 (take i s)
front_utf8 s c i j utf8 le white at =
    IsUtf8-take s i utf8
    (IsCharBoundary-from_drop s i le
    (subst IsUtf8 (sym at.split) (IsUtf8-append (encode_utf8 c) (drop j s) (IsUtf8-encode c (white_scalar c white)) (back_utf8 s c i j utf8 at))))

-- the clauses of a split at the first white space, and at the last
pub record PartsFirst (s front back : List ℕ) : Type 0 where
  pub word : chars front ≡ first_word (chars s)
  pub others : chars back ≡ behind_word (chars s)
  pub front_text : IsUtf8 front
  pub back_text : IsUtf8 back

pub record PartsLast (s front back : List ℕ) : Type 0 where
  pub others : chars front ≡ before_word (chars s)
  pub word : chars back ≡ last_word (chars s)
  pub front_text : IsUtf8 front
  pub back_text : IsUtf8 back

pub first_parts : (s front back : List ℕ) → IsUtf8 s → SplitsAroundMatch (FindsBy is_whitespace) s front back → PartsFirst s front back
first_parts s front back utf8 (i, j, ((cs, made, none), (c, white, at)), front_is, back_is, le, len, rest) =
    let fore : IsUtf8 front = subst IsUtf8 (sym front_is) (front_utf8 s c i j utf8 (omega (arith, le, rest)) white at) in
    let aft : IsUtf8 back = subst IsUtf8 (sym back_is) (back_utf8 s c i j utf8 at) in
    let whole = around s cs (chars back) c i j utf8 made (encodes-chars back aft ∙ back_is) at.split in record {
      word = sym (chars_from_encodes cs front fore (made ∙ sym front_is)) ∙ sym (first_is cs (chars back) c none white) ∙ ap first_word (sym whole);
      others = sym (behind_is cs (chars back) c none white) ∙ ap behind_word (sym whole);
      front_text = fore;
      back_text = aft;
    }

pub last_parts : (s front back : List ℕ) → IsUtf8 s → SplitsAroundMatch (RFindsBy is_whitespace) s front back → PartsLast s front back
last_parts s front back utf8 (i, j, ((cs, made, none), (c, white, at)), front_is, back_is, le, len, rest) =
    let fore : IsUtf8 front = subst IsUtf8 (sym front_is) (front_utf8 s c i j utf8 (omega (arith, le, rest)) white at) in
    let aft : IsUtf8 back = subst IsUtf8 (sym back_is) (back_utf8 s c i j utf8 at) in
    let whole = around s (chars front) cs c i j utf8 (encodes-chars front fore ∙ front_is) made at.split in record {
      others = sym (before_is (chars front) cs c none white) ∙ ap before_word (sym whole);
      word = sym (chars_from_encodes cs back aft (made ∙ sym back_is)) ∙ sym (last_is (chars front) cs c none white) ∙ ap last_word (sym whole);
      front_text = fore;
      back_text = aft;
    }

-- a split by a closure that finds white space
pub by_white : (M : (ℕ → Bool) → Type 0) (F : (ℕ → Bool) → List ℕ → Option (ℕ × ℕ) → Type 0) (s front back : List ℕ)
    → SplitsAroundMatch (λ t o. (k : ℕ → Bool) → M k → F k t o) s front back → M is_whitespace → SplitsAroundMatch (F is_whitespace) s front back
by_white M F s front back (i, j, finds, front_is, back_is, le, len, rest) m = (i, j, finds is_whitespace m, front_is, back_is, le, len, rest)

-- where there is no white space
pub first_whole : (s back : List ℕ) → IsUtf8 s → NoCharPasses is_whitespace s → back ≡ [] → PartsFirst s s back
first_whole s back utf8 (cs, made, none) empty =
    let whole : cs ≡ chars s = chars_from_encodes cs s utf8 made in record {
      word = sym (ap first_word (sym whole) ∙ first_all cs none ∙ whole);
      others = ap chars empty ∙ chars-nil ∙ sym (ap behind_word (sym whole) ∙ behind_all cs none);
      front_text = utf8;
      back_text = subst IsUtf8 (sym empty) IsUtf8-nil;
    }

pub last_whole : (s front : List ℕ) → IsUtf8 s → NoCharPasses is_whitespace s → front ≡ [] → PartsLast s front s
last_whole s front utf8 (cs, made, none) empty =
    let whole : cs ≡ chars s = chars_from_encodes cs s utf8 made in record {
      others = ap chars empty ∙ chars-nil ∙ sym (ap before_word (sym whole) ∙ before_all cs none);
      word = sym (ap last_word (sym whole) ∙ last_all cs none ∙ whole);
      front_text = subst IsUtf8 (sym empty) IsUtf8-nil;
      back_text = utf8;
    }

-- the characters of a trimmed text
pub start_trimmed : (s t : List ℕ) → IsUtf8 t → t ≡ trim_start s → chars t ≡ skip_leading_whitespace (chars s)
unfolding trim_start
start_trimmed s t utf8 is = encodes_same (chars t) (skip_leading_whitespace (chars s)) (encodes-chars t utf8 ∙ is)

pub end_trimmed : (s t : List ℕ) → IsUtf8 t → t ≡ trim_end s → chars t ≡ drop_trailing_whitespace (chars s)
unfolding trim_end
end_trimmed s t utf8 is = encodes_same (chars t) (drop_trailing_whitespace (chars s)) (encodes-chars t utf8 ∙ is)

-- no words of nothing; where no cut is left, the rest; else a word, and those behind it
no_words : (n : ℕ) → words_from n [] ≡ []
no_words zero = refl
no_words (suc n) = refl

no_words_back : (n : ℕ) → words_back n [] ≡ []
no_words_back zero = refl
no_words_back (suc n) = refl

nothing : (s : List ℕ) → length s ≡ 0 → chars s ≡ []
nothing s empty = ap chars (nil_from_length s empty) ∙ chars-nil

pub words_end : (s : List ℕ) (n : ℕ) → length s ≡ 0 → map encode_utf8_all (words_from n (chars s)) ≡ []
words_end s n empty = ap (λ (cs : List ℕ). map encode_utf8_all (words_from n cs)) (nothing s empty) ∙ ap (map encode_utf8_all) (no_words n)

pub words_back_end : (s : List ℕ) (n : ℕ) → length s ≡ 0 → map encode_utf8_all (words_back n (chars s)) ≡ []
words_back_end s n empty = ap (λ (cs : List ℕ). map encode_utf8_all (words_back n cs)) (nothing s empty) ∙ ap (map encode_utf8_all) (no_words_back n)

-- a text with characters, by these
module _ (P : List ℕ → Type 0) (step : (c : ℕ) (cs : List ℕ) → P (c ∷ cs)) where
  some_chars : (cs s : List ℕ) → encode_utf8_all cs ≡ s → 0 < length s → P cs
  some_chars [] s made some = absurd (omega (arith, some, ap length made))
  some_chars (c ∷ cs) s made some = step c cs

pub words_rest : (s : List ℕ) (n : ℕ) → n ≡ 0 → IsUtf8 s → 0 < length s → map encode_utf8_all (words_from n (chars s)) ≡ s ∷ []
words_rest s n none utf8 some =
    rw none
    (some_chars (λ (cs : List ℕ). map encode_utf8_all (words_from 0 cs) ≡ encode_utf8_all cs ∷ []) (λ c cs. refl) (chars s) s (encodes-chars s utf8) some
    ∙ ap (λ (x : List ℕ). x ∷ []) (encodes-chars s utf8))

pub words_back_rest : (s : List ℕ) (n : ℕ) → n ≡ 0 → IsUtf8 s → 0 < length s → map encode_utf8_all (words_back n (chars s)) ≡ s ∷ []
words_back_rest s n none utf8 some =
    rw none
    (some_chars (λ (cs : List ℕ). map encode_utf8_all (words_back 0 cs) ≡ encode_utf8_all cs ∷ []) (λ c cs. refl) (chars s) s (encodes-chars s utf8) some
    ∙ ap (λ (x : List ℕ). x ∷ []) (encodes-chars s utf8))

pub word_comes : (s word after rest : List ℕ) (n m : ℕ) → m ≡ suc n → IsUtf8 s → 0 < length s → PartsFirst s word after → chars rest ≡ skip_leading_whitespace (chars after)
    → map encode_utf8_all (words_from m (chars s)) ≡ word ∷ map encode_utf8_all (words_from n (chars rest))
word_comes s word after rest n m more utf8 some parts trimmed =
    rw more
    (some_chars
    (λ (cs : List ℕ). map encode_utf8_all (words_from (suc n) cs) ≡ encode_utf8_all (first_word cs) ∷ map encode_utf8_all (words_from n (skip_leading_whitespace (behind_word cs))))
    (λ c cs. refl) (chars s) s (encodes-chars s utf8) some
    ∙ rw (← parts.word, ← parts.others, ← trimmed) (ap (λ (x : List ℕ). x ∷ map encode_utf8_all (words_from n (chars rest))) (encodes-chars word parts.front_text)))

pub word_comes_back : (s before word rest : List ℕ) (n m : ℕ) → m ≡ suc n → IsUtf8 s → 0 < length s → PartsLast s before word → chars rest ≡ drop_trailing_whitespace (chars before)
    → map encode_utf8_all (words_back m (chars s)) ≡ word ∷ map encode_utf8_all (words_back n (chars rest))
word_comes_back s before word rest n m more utf8 some parts trimmed =
    rw more
    (some_chars
    (λ (cs : List ℕ). map encode_utf8_all (words_back (suc n) cs) ≡ encode_utf8_all (last_word cs) ∷ map encode_utf8_all (words_back n (drop_trailing_whitespace (before_word cs))))
    (λ c cs. refl) (chars s) s (encodes-chars s utf8) some
    ∙ rw (← parts.word, ← parts.others, ← trimmed) (ap (λ (x : List ℕ). x ∷ map encode_utf8_all (words_back n (chars rest))) (encodes-chars word parts.back_text)))

-- one text more
pub shown_more : (xs : List (Bor (List ℕ))) (w : Bor (List ℕ)) (ys : List (Bor (List ℕ))) (more : List (List ℕ)) → ys ≡ xs ++ w ∷ []
    → all_shown ys ++ more ≡ all_shown xs ++ w.now ∷ more
shown_more xs w ys more is = ap (λ (zs : List (Bor (List ℕ))). all_shown zs ++ more) is ∙ onto xs
  where
    onto : (xs : List (Bor (List ℕ))) → all_shown (xs ++ w ∷ []) ++ more ≡ all_shown xs ++ w.now ∷ more
    onto [] = refl
    onto (x ∷ xs) = ap (λ (zs : List (List ℕ)). x.now ∷ zs) (onto xs)
