-- Lines and columns of a text in parts.
use Rattle.std.proofs.Common.{◌≡◌, ℕ, ◌+◌, ◌≤◌, min, Bool, true, false, if◌then◌else◌, List, [], ◌∷◌, ◌++◌, length, fold, count_by, refl, arith}
use Rattle.std.proofs.lemmas.List.Sums.{sum_by-append}
use Rattle.template_compiler_tokens.specs.Bytes.{is_newline, begins_character, next_column}

-- no column is greater than its start and the bytes behind it
pub column_bound : (c : ℕ) (s : List ℕ) → fold next_column c s ≤ c + length s
column_bound c [] = omega arith
column_bound c (b ∷ s) = go (is_newline b) (begins_character b) (λ d. column_bound d s)
  where
    go : (x y : Bool) → ((d : ℕ) → fold next_column d s ≤ d + length s) →
        fold next_column (if x then 0 else if y then c + 1 else c) s ≤ c + length (b ∷ s)
    go true y rest = let h = rest 0 in omega arith
    go false true rest = let h = rest (c + 1) in omega arith
    go false false rest = let h = rest c in omega arith

-- columns that stop at 65535 are the same from there on
same_capped : (c d : ℕ) (s : List ℕ) → min c 65535 ≡ min d 65535 → min (fold next_column c s) 65535 ≡ min (fold next_column d s) 65535
same_capped c d [] e = e
same_capped c d (b ∷ s) e = go (is_newline b) (begins_character b) (λ c d. same_capped c d s)
  where
    go : (x y : Bool) → ((c d : ℕ) → min c 65535 ≡ min d 65535 → min (fold next_column c s) 65535 ≡ min (fold next_column d s) 65535) →
        min (fold next_column (if x then 0 else if y then c + 1 else c) s) 65535 ≡ min (fold next_column (if x then 0 else if y then d + 1 else d) s) 65535
    go true y rest = refl
    go false true rest = rest (c + 1) (d + 1) (omega arith)
    go false false rest = rest c d e

pub capped : (c : ℕ) (s : List ℕ) → min (fold next_column (min c 65535) s) 65535 ≡ min (fold next_column c s) 65535
capped c s = same_capped (min c 65535) c s (omega arith)

pub lines_append : (xs ys : List ℕ) → count_by is_newline (xs ++ ys) ≡ count_by is_newline xs + count_by is_newline ys
lines_append xs ys = sum_by-append (λ x. if is_newline x then 1 else 0) xs ys
