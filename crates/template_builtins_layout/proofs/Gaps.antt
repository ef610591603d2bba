-- Lemmas on the words of a text and what is between them.
use Rattle.std.proofs.Common.{◌≡◌, ℕ, ◌<◌, ◌==◌, List, [], ◌∷◌, ◌++◌, length, Bool, true, false, not, refl, sym, ap, ◌∙◌, arith, append_assoc, append-nil, chars, encode_utf8, encode_utf8_all, IsUtf8}
use Rattle.std.proofs.lemmas.Bool.Decides.{nat_tests}
use Rattle.std.proofs.lemmas.List.Splits.{slice_split-cons_yes, slice_split-cons_no}
use Rattle.std.proofs.lemmas.Str.{IsUtf8-past_char, chars_past_char, chars-nil}
use Rattle.std.specs.Char.{is_not_whitespace, is_whitespace}
use Rattle.std.specs.List.{filter, flat_map, join_by, onto_first, slice_split}
use Rattle.std.specs.Str.{EmptyOrStartsWithPassing, NoCharPasses, NonePass}
use Rattle.template_builtins_layout.specs.Spacing.{single_spaced, spaced, words}

-- characters at the begin of a text
chars_past : (cs bs rest : List ℕ) → IsUtf8 bs → bs ≡ encode_utf8_all cs ++ rest → IsUtf8 rest × (chars bs ≡ cs ++ chars rest)
chars_past [] bs rest utf8 is = (rw is at utf8, ap chars is)
chars_past (c ∷ cs) bs rest utf8 is =
    let parts = is ∙ append_assoc (encode_utf8 c) (encode_utf8_all cs) rest in
    let past = IsUtf8-past_char bs (encode_utf8_all cs ++ rest) c utf8 parts in
    let more = chars_past cs (encode_utf8_all cs ++ rest) rest past refl in
    (more.0, chars_past_char bs (encode_utf8_all cs ++ rest) c utf8 parts ∙ ap (λ (x : List ℕ). c ∷ x) more.1)

white : (c : ℕ) → is_not_whitespace c ≡ false → is_whitespace c ≡ true
white c is = by_test (is_whitespace c) is
  where
    by_test : (t : Bool) → not t ≡ false → t ≡ true
    by_test true e = refl
    by_test false e = absurd cc

-- white space makes no word
words_past_gap : (gap cs : List ℕ) → NonePass is_not_whitespace gap → words (gap ++ cs) ≡ words cs
words_past_gap [] cs all = refl
words_past_gap (c ∷ gap) cs (here, all) =
    rw (slice_split-cons_yes is_whitespace c (gap ++ cs) (white c here)) (words_past_gap gap cs all)

split_past_word : (word cs : List ℕ) (parts : List (List ℕ)) → NonePass is_whitespace word → slice_split is_whitespace cs ≡ [] ∷ parts
    → slice_split is_whitespace (word ++ cs) ≡ word ∷ parts
split_past_word [] cs parts all is = is
split_past_word (c ∷ word) cs parts (here, all) is =
    slice_split-cons_no is_whitespace c (word ++ cs) here ∙ ap (onto_first c) (split_past_word word cs parts all is)

not_zero : (n : ℕ) → 0 < n → (n == 0) ≡ false
not_zero n some = grind (arith, nat_tests)

kept : (word : List ℕ) (parts : List (List ℕ)) → 0 < length word
    → filter (λ x. not (length x == 0)) (word ∷ parts) ≡ word ∷ filter (λ x. not (length x == 0)) parts
kept [] parts some = absurd (omega arith)
kept (c ∷ word) parts some = rw (not_zero (length (c ∷ word)) some)

word_first : (word cs : List ℕ) (parts : List (List ℕ)) → NonePass is_whitespace word → 0 < length word
    → slice_split is_whitespace cs ≡ [] ∷ parts → words (word ++ cs) ≡ word ∷ words cs
word_first word cs parts all some is =
    rw (split_past_word word cs parts all is, is) (kept word parts some)

-- what is behind a word begins with no part
begins_empty : (rest more : List ℕ) → IsUtf8 rest → EmptyOrStartsWithPassing is_whitespace rest more
    → (parts : List (List ℕ)) × (slice_split is_whitespace (chars rest) ≡ [] ∷ parts)
begins_empty [] more utf8 starts = ([], rw chars-nil)
begins_empty (b ∷ bs) more utf8 starts =
    let first = starts (omega arith) in (
      slice_split is_whitespace (chars more),
      rw (chars_past_char (b ∷ bs) more first.0 utf8 first.2) (slice_split-cons_yes is_whitespace first.0 (chars more) first.1),
    )

-- a word comes off the front
record Comes (s word rest : List ℕ) : Type 0 where
  pub characters : List ℕ
  pub spells : encode_utf8_all characters ≡ word
  pub first : words (chars s) ≡ characters ∷ words (chars rest)
  pub past : IsUtf8 rest

length_spelled : (cs word : List ℕ) → encode_utf8_all cs ≡ word → 0 < length word → 0 < length cs
length_spelled [] word is some = absurd (omega (arith, ap length is, some))
length_spelled (c ∷ cs) word is some = omega arith

comes : (s gap word rest : List ℕ) → IsUtf8 s → s ≡ gap ++ (word ++ rest) → 0 < length word → NoCharPasses is_not_whitespace gap
    → NoCharPasses is_whitespace word → (more : List ℕ) × EmptyOrStartsWithPassing is_whitespace rest more → Comes s word rest
comes s gap word rest utf8 is some (gs, spells_gap, gap_white) (ws, spells_word, word_plain) (more, starts) =
    let by_gap = chars_past gs s (word ++ rest) utf8 (is ∙ ap (λ (x : List ℕ). x ++ (word ++ rest)) (sym spells_gap)) in
    let by_word = chars_past ws (word ++ rest) rest by_gap.0 (ap (λ (x : List ℕ). x ++ rest) (sym spells_word)) in
    let begins = begins_empty rest more by_word.0 starts in
    record {
      characters = ws;
      spells = spells_word;
      first =
          ap words (by_gap.1 ∙ ap (λ (x : List ℕ). gs ++ x) by_word.1)
          ∙ words_past_gap gs (ws ++ chars rest) gap_white
          ∙ word_first ws (chars rest) begins.0 word_plain (length_spelled ws word spells_word some) begins.1;
      past = by_word.0;
    }

no_words : (s : List ℕ) → IsUtf8 s → NoCharPasses is_not_whitespace s → words (chars s) ≡ []
no_words s utf8 (gs, spells, all) =
    ap words ((chars_past gs s [] utf8 (sym spells ∙ sym (append-nil (encode_utf8_all gs)))).1 ∙ ap (λ (x : List ℕ). gs ++ x) chars-nil)
    ∙ words_past_gap gs [] all

pub single_spaced_none : (s : List ℕ) → IsUtf8 s → NoCharPasses is_not_whitespace s → single_spaced s ≡ []
unfolding single_spaced
single_spaced_none s utf8 none = rw (no_words s utf8 none)

pub spaced_none : (s : List ℕ) → IsUtf8 s → NoCharPasses is_not_whitespace s → spaced s ≡ []
unfolding spaced
spaced_none s utf8 none = rw (no_words s utf8 none)

pub single_spaced_first : (s gap word rest : List ℕ) → IsUtf8 s → s ≡ gap ++ (word ++ rest) → 0 < length word → NoCharPasses is_not_whitespace gap
    → NoCharPasses is_whitespace word → (more : List ℕ) × EmptyOrStartsWithPassing is_whitespace rest more
    → IsUtf8 rest × (single_spaced s ≡ word ++ spaced rest)
unfolding single_spaced spaced
single_spaced_first s gap word rest utf8 is some gap_white word_plain starts =
    let one = comes s gap word rest utf8 is some gap_white word_plain starts in (
      one.past,
      ap (join_by encode_utf8_all (32 ∷ [])) one.first ∙ ap (λ (x : List ℕ). x ++ spaced rest) one.spells,
    )

pub spaced_next : (s gap word rest : List ℕ) → IsUtf8 s → s ≡ gap ++ (word ++ rest) → 0 < length word → NoCharPasses is_not_whitespace gap
    → NoCharPasses is_whitespace word → (more : List ℕ) × EmptyOrStartsWithPassing is_whitespace rest more
    → IsUtf8 rest × (spaced s ≡ 32 ∷ (word ++ spaced rest))
unfolding spaced
spaced_next s gap word rest utf8 is some gap_white word_plain starts =
    let one = comes s gap word rest utf8 is some gap_white word_plain starts in (
      one.past,
      ap (flat_map (λ (x : List ℕ). 32 ∷ encode_utf8_all x)) one.first ∙ ap (λ (x : List ℕ). 32 ∷ (x ++ spaced rest)) one.spells,
    )

pub spaced_whole : (text s out one two word rest : List ℕ) → out ≡ [] → one ≡ out ++ word → two ≡ one ++ spaced rest → s ≡ text
    → single_spaced s ≡ word ++ spaced rest → two ≡ single_spaced text
spaced_whole text s out one two word rest none first more same whole =
    more ∙ ap (λ (x : List ℕ). x ++ spaced rest) (first ∙ ap (λ (x : List ℕ). x ++ word) none) ∙ sym whole ∙ ap single_spaced same

-- what is made of the rest stands behind what is made, also after one word more
pub goes_on : (out one two next made more whole : List ℕ) → one ≡ out ++ (32 ∷ []) → two ≡ one ++ next → made ≡ 32 ∷ (next ++ more)
    → out ++ made ≡ whole → two ++ more ≡ whole
goes_on out one two next made more whole e f g h =
    ap (λ (x : List ℕ). x ++ more) (f ∙ ap (λ (x : List ℕ). x ++ next) e)
    ∙ append_assoc (out ++ (32 ∷ [])) next more
    ∙ append_assoc out (32 ∷ []) (next ++ more)
    ∙ ap (λ (x : List ℕ). out ++ x) (sym g)
    ∙ h
