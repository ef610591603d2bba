-- Texts that are compared piece by piece.
use Rattle.std.proofs.Common.{◌≡◌, ◌∙◌, nat_eq, refl, sym, ap, ℕ, zero, suc, ◌+◌, ◌-◌, ◌<◌, ◌≤◌, Bool, true, false, ◌&&◌, List, [], ◌∷◌, length, get_or, take, drop, arith}
use Rattle.std.specs.Int.{from_le_bytes, to_le_bytes, w32}
use Rattle.std.specs.Str.{bytes_eq}
use Rattle.std.proofs.lemmas.Bool.Decides.{Decides-eqb, Decides-like, same_from_decides}
use Rattle.std.proofs.lemmas.Bool.{true≢false}
use Rattle.std.proofs.lemmas.List.{drop-drop, length-drop, take_all, take_rest}
use Rattle.std.proofs.lemmas.Nat.{le_bytes_4}
use Rattle.std.proofs.lemmas.Slice.Eq.{bytes_eq-Decides}

and_assoc : (a b c : Bool) → (a && (b && c)) ≡ ((a && b) && c)
and_assoc true b c = refl
and_assoc false b c = refl

-- two texts are the same where their beginnings and what stands behind these are
pub parted : (n : ℕ) (xs ys : List ℕ) → bytes_eq xs ys ≡ (bytes_eq (take n xs) (take n ys) && bytes_eq (drop n xs) (drop n ys))
parted zero xs ys = refl
parted (suc n) [] [] = refl
parted (suc n) [] (y ∷ ys) = refl
parted (suc n) (x ∷ xs) [] = refl
parted (suc n) (x ∷ xs) (y ∷ ys) =
    ap (λ b. nat_eq x y && b) (parted n xs ys)
    ∙ and_assoc (nat_eq x y) (bytes_eq (take n xs) (take n ys)) (bytes_eq (drop n xs) (drop n ys))

-- words are the same where their numbers are
pub same_word : (xs ys : List ℕ) (a b : ℕ) → length xs ≡ 4 → length ys ≡ 4
    → ((i : ℕ) → get_or xs i 0 < 256) → ((i : ℕ) → get_or ys i 0 < 256)
    → a ≡ from_le_bytes w32 xs → b ≡ from_le_bytes w32 ys → nat_eq a b ≡ bytes_eq xs ys
same_word xs ys a b long others small smalls is are =
    same_from_decides _ _
    (Decides-like _ (λ e. sym (le_bytes_4 xs a long small is) ∙ ap (to_le_bytes w32) e ∙ le_bytes_4 ys b others smalls are) (λ e. is ∙ ap (from_le_bytes w32) e ∙ sym are) (Decides-eqb a b))
    (bytes_eq-Decides xs ys)

-- the bytes of a beginning are bytes
pub small_taken : (n : ℕ) (xs : List ℕ) → ((i : ℕ) → get_or xs i 0 < 256) → (i : ℕ) → get_or (take n xs) i 0 < 256
small_taken zero xs small zero = omega arith
small_taken zero xs small (suc i) = omega arith
small_taken (suc n) [] small i = small i
small_taken (suc n) (x ∷ xs) small zero = small zero
small_taken (suc n) (x ∷ xs) small (suc i) = small_taken n xs (λ j. small (suc j)) i

-- what is taken behind a place is taken of all that stands there
from_slices : (n place : ℕ) (xs ys : List ℕ) (same : Bool)
    → same ≡ bytes_eq (take n (take (length xs - place) (drop place xs))) (take n (take (length ys - place) (drop place ys)))
    → same ≡ bytes_eq (take n (drop place xs)) (take n (drop place ys))
from_slices n place xs ys same is =
    is ∙ ap (λ zs. bytes_eq (take n zs) (take n (take (length ys - place) (drop place ys)))) (take_rest xs place)
    ∙ ap (λ zs. bytes_eq (take n (drop place xs)) (take n zs)) (take_rest ys place)

-- a word that is the same on both sides is passed
pub passed : (n place : ℕ) (xs ys : List ℕ) (same : Bool) → same ≡ true
    → same ≡ bytes_eq (take n (take (length xs - place) (drop place xs))) (take n (take (length ys - place) (drop place ys)))
    → bytes_eq (drop place xs) (drop place ys) ≡ bytes_eq (drop (place + n) xs) (drop (place + n) ys)
passed n place xs ys same met is =
    parted n (drop place xs) (drop place ys)
    ∙ ap (λ b. b && bytes_eq (drop n (drop place xs)) (drop n (drop place ys))) (sym (from_slices n place xs ys same is) ∙ met)
    ∙ ap (λ zs. bytes_eq zs (drop n (drop place ys))) (drop-drop n place xs)
    ∙ ap (bytes_eq (drop (place + n) xs)) (drop-drop n place ys)

-- what stands behind a place decides, where what stands behind an earlier one does
decided : (all before later between rest : Bool) → all ≡ (before && later) → later ≡ (between && rest) → all ≡ rest → later ≡ all
decided all before true true rest is parts same = parts ∙ sym same
decided all before true false rest is parts same = absurd (true≢false parts)
decided all true false between rest is parts same = sym is
decided all false false between rest is parts same = sym is

-- the last word decides, where all that stands before it was passed
pub ended : (n last place : ℕ) (xs ys : List ℕ) (same : Bool) → last ≤ place → length xs ≤ last + n → length ys ≤ last + n
    → same ≡ bytes_eq (take n (take (length xs - last) (drop last xs))) (take n (take (length ys - last) (drop last ys)))
    → bytes_eq xs ys ≡ bytes_eq (drop place xs) (drop place ys) → same ≡ bytes_eq xs ys
ended n last place xs ys same le long longs is rest =
    let behind : (zs : List ℕ) → drop (place - last) (drop last zs) ≡ drop place zs =
    λ zs. drop-drop (place - last) last zs ∙ ap (λ i. drop i zs) (omega arith) in
    let whole : (zs : List ℕ) → length zs ≤ last + n → take n (drop last zs) ≡ drop last zs =
    λ zs l. take_all n (drop last zs) (omega (arith, length-drop last zs)) in
    from_slices n last xs ys same is ∙ ap (λ zs. bytes_eq zs (take n (drop last ys))) (whole xs long) ∙ ap (bytes_eq (drop last xs)) (whole ys longs)
    ∙ decided (bytes_eq xs ys) (bytes_eq (take last xs) (take last ys)) (bytes_eq (drop last xs) (drop last ys)) (bytes_eq (take (place - last) (drop last xs)) (take (place - last) (drop last ys))) (bytes_eq (drop place xs) (drop place ys))
    (parted last xs ys)
    (parted (place - last) (drop last xs) (drop last ys)
    ∙ ap (λ b. bytes_eq (take (place - last) (drop last xs)) (take (place - last) (drop last ys)) && b) (ap (λ zs. bytes_eq zs (drop (place - last) (drop last ys))) (behind xs) ∙ ap (bytes_eq (drop place xs)) (behind ys)))
    rest
