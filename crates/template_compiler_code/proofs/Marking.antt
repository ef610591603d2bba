-- A search by halving finds the last mark, and the marks that begin before a place.
use Rattle.std.proofs.Common.{◌≡◌, ℕ, zero, suc, ◌<◌, ◌≤◌, true, false, leb, ltb, cond, List, [], ◌∷◌, length, take, filter, Option, None, Some, slice_get, ap₂, ◌∙◌, refl, sym, arith}
use Rattle.std.specs.List.Sorted.{IsPartitionPoint}
use Rattle.template_compiler_code.specs.declared.marks.Mark.{Mark}
use Rattle.template_compiler_code.specs.Marked.{or_else, mark_at, last_before}

-- what a list holds comes first
held-first : (marks : List Mark) (k : ℕ) (other : Option Mark) → k < length marks → or_else (slice_get marks k) other ≡ slice_get marks k
held-first [] k other less = absurd (omega arith)
held-first (m ∷ marks) zero other less = refl
held-first (m ∷ marks) (suc k) other less = held-first marks k other (omega arith)

last-first : (m : Mark) (marks : List Mark) (n : ℕ) → n ≤ length marks → or_else (last_before marks n) (Some m) ≡ slice_get (m ∷ marks) n
last-first m marks zero less = refl
last-first m marks (suc k) less = held-first marks k (Some m) (omega arith)

-- of marks of which the first so many alone begin at an instruction or before it, the last of those is the last that does
pub mark_at-first : (marks : List Mark) (index n : ℕ) → n ≤ length marks
    → IsPartitionPoint (λ m. leb m.start index ≡ true) (λ m. leb m.start index ≡ false) marks n
    → mark_at marks index ≡ last_before marks n
mark_at-first [] index zero less p = refl
mark_at-first [] index (suc n) less p = absurd (omega arith)
mark_at-first (m ∷ marks) index zero less p =
    let rest = mark_at-first marks index zero (omega arith) ((λ k d low high. absurd (omega arith)), (λ k d low high. p.1 (suc k) d (omega arith) (omega arith))) in
    ap₂ (λ o b. or_else o (cond b (Some m) None)) rest (p.1 zero m (omega arith) (omega arith))
mark_at-first (m ∷ marks) index (suc n) less p =
    let rest = mark_at-first marks index n (omega arith) ((λ k d low high. p.0 (suc k) d (omega arith) (omega arith)), (λ k d low high. p.1 (suc k) d (omega arith) (omega arith))) in
    ap₂ (λ o b. or_else o (cond b (Some m) None)) rest (p.0 zero m (omega arith) (omega arith)) ∙ last-first m marks n (omega arith)

-- the marks that begin before a place are the first so many
pub filter-first : (marks : List Mark) (len n : ℕ)
    → IsPartitionPoint (λ m. ltb m.start len ≡ true) (λ m. ltb m.start len ≡ false) marks n
    → take n marks ≡ filter (λ m. ltb m.start len) marks
filter-first [] len zero p = refl
filter-first [] len (suc n) p = refl
filter-first (m ∷ marks) len zero p =
    let rest = filter-first marks len zero ((λ k d low high. absurd (omega arith)), (λ k d low high. p.1 (suc k) d (omega arith) (omega arith))) in
    ap₂ (λ ms b. cond b (m ∷ ms) ms) rest (sym (p.1 zero m (omega arith) (omega arith)))
filter-first (m ∷ marks) len (suc n) p =
    let rest = filter-first marks len n ((λ k d low high. p.0 (suc k) d (omega arith) (omega arith)), (λ k d low high. p.1 (suc k) d (omega arith) (omega arith))) in
    ap₂ (λ ms b. cond b (m ∷ ms) ms) rest (sym (p.0 zero m (omega arith) (omega arith)))
