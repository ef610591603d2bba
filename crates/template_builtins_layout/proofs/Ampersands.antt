-- Lemmas on references.
use Rattle.std.proofs.Common.{◌≡◌, ℕ, ◌<◌, ◌+◌, List, [], ◌∷◌, ◌++◌, length, Bool, true, false, ◌==◌, eqb, refl, sym, ap, ◌∙◌, arith, append-nil, append_assoc, IsUtf8, None, Some, lit<}
use Rattle.std.specs.Char.{len_utf8}
use Rattle.std.specs.List.{after_first, before_first, flat_map, position_or_len, slice_split}
use Rattle.std.specs.Str.Pattern.{FindsChar, SplitsAroundMatch}
use Rattle.std.specs.Borrow.{Bor}
use Rattle.std.proofs.lemmas.Str.Pattern.{split_once_first}
use Rattle.std.proofs.lemmas.Bool.Decides.{nat_tests}
use Rattle.std.proofs.lemmas.List.Splits.{slice_split_first}
use Rattle.std.proofs.lemmas.Str.{IsUtf8-drop}
use Rattle.template_builtins_layout.specs.References.{character_named, part_after, parts_from, referred, unescaped_from}

split_none : (p : ℕ → Bool) (s : List ℕ) → position_or_len p s ≡ length s → slice_split p s ≡ s ∷ []
split_none p [] none = refl
split_none p (b ∷ bs) none = by_test (p b) refl (split_none p bs)
  where
    by_test : (t : Bool) → p b ≡ t → (position_or_len p bs ≡ length bs → slice_split p bs ≡ bs ∷ []) → slice_split p (b ∷ bs) ≡ (b ∷ bs) ∷ []
    by_test true is rest = absurd (omega (arith, rw is at none))
    by_test false is rest = let short : position_or_len p bs ≡ length bs = omega (arith, rw is at none) in rw (is, rest short)

further : (parts : List (List ℕ)) → flat_map referred parts ≡ parts_from true parts
further [] = refl
further (part ∷ parts) = refl

pub unescaped_next : (behind : Bool) (s part rest : List ℕ) → position_or_len (λ b. b == 38) s < length s
    → part ≡ before_first (λ b. b == 38) s → rest ≡ after_first (λ b. b == 38) s
    → unescaped_from behind s ≡ part_after behind part ++ unescaped_from true rest
unfolding unescaped_from
unescaped_next behind s part rest some front back =
    ap (parts_from behind) (slice_split_first (λ b. b == 38) s 0 some)
    ∙ rw (← front, ← back) (ap (λ (x : List ℕ). part_after behind part ++ x) (further (slice_split (λ b. b == 38) rest)))

pub unescaped_last : (behind : Bool) (s : List ℕ) → position_or_len (λ b. b == 38) s ≡ length s → unescaped_from behind s ≡ part_after behind s
unfolding unescaped_from
unescaped_last behind s none =
    ap (parts_from behind) (split_none (λ b. b == 38) s none) ∙ append-nil (part_after behind s)

-- what is behind an ampersand is text
pub rest_utf8 : (s before after : List ℕ) → IsUtf8 s → SplitsAroundMatch (FindsChar 38) s before after → IsUtf8 after
rest_utf8 s before after utf8 (i, j, (lacks, there), front, back, le, len, rest) = rw (back, there.ends) (IsUtf8-drop s (i + len_utf8 38) utf8 there.after)

equal_true : (m n : ℕ) → m ≡ n → eqb m n ≡ true
equal_true m n is = grind (arith, nat_tests)

less_false : (m n : ℕ) → m < n → eqb m n ≡ false
less_false m n less = grind (arith, nat_tests)

pub no_semicolon : (part : List ℕ) → FindsChar 59 part None → referred part ≡ 38 ∷ part
unfolding referred
no_semicolon part finds =
    rw (equal_true (position_or_len (λ b. b == 59) part) (length part) (split_once_first 59 part None finds (lit< tt)))

pub unknown_name : (part : List ℕ) (name after : Bor (List ℕ)) → SplitsAroundMatch (FindsChar 59) part name.now after.now
    → character_named name.now ≡ None → referred part ≡ 38 ∷ part
unfolding referred
unknown_name part name after cut unknown =
    let parts = split_once_first 59 part (Some (name, after)) cut (lit< tt) in
    let named = rw parts.1 at unknown in
    rw (less_false (position_or_len (λ b. b == 59) part) (length part) parts.0, named)

pub known_name : (part : List ℕ) (name after : Bor (List ℕ)) (c : List ℕ) → SplitsAroundMatch (FindsChar 59) part name.now after.now
    → character_named name.now ≡ Some c → referred part ≡ c ++ after.now
unfolding referred
known_name part name after c cut known =
    let parts = split_once_first 59 part (Some (name, after)) cut (lit< tt) in
    let named = rw parts.1 at known in
    rw (less_false (position_or_len (λ b. b == 59) part) (length part) parts.0, named, parts.2)

-- what is made of the rest stands behind what is made, also after one step more
pub goes_on : (out one first made more whole : List ℕ) → one ≡ out ++ first → made ≡ first ++ more → out ++ made ≡ whole → one ++ more ≡ whole
goes_on out one first made more whole e g h =
    ap (λ (x : List ℕ). x ++ more) e ∙ append_assoc out first more ∙ ap (λ (x : List ℕ). out ++ x) (sym g) ∙ h
