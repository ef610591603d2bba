-- Newlines and characters as bytes in a range, and the column behind the last newline.
use Rattle.std.proofs.Common.{◌≡◌, ℕ, suc, ◌+◌, ◌<◌, Bool, true, false, if◌then◌else◌, List, [], ◌∷◌, length, take, drop, fold, count_by, slice_index, refl, sym, ◌∙◌, ap, arith, length-drop}
use Rattle.std.proofs.lemmas.List.{take-append-drop, get_or-drop}
use Rattle.std.proofs.lemmas.List.Sums.{sum_by-cons, sum_by-append, fold-append, fold_more}
use Rattle.memchr.specs.Find.{Nowhere, Passes, is_byte}
use Rattle.template_compiler_tokens.specs.Bytes.{is_between, is_newline, begins_character, next_column}

abbrev one_if : Bool → ℕ
one_if b = if b then 1 else 0

newline_between : (b : ℕ) → one_if (is_between 10 10 b) ≡ one_if (is_newline b)
newline_between b = grind arith

pub newlines_between : (s : List ℕ) → count_by (is_between 10 10) s ≡ count_by is_newline s
newlines_between [] = refl
newlines_between (b ∷ s) =
    let first = sum_by-cons (λ x. one_if (is_between 10 10 x)) b s in
    let other = sum_by-cons (λ x. one_if (is_newline x)) b s in
    let same = newline_between b in
    let rest = newlines_between s in
    omega (arith, first, other, same, rest)

-- a byte continues a character, or begins one
continues_or_begins : (b : ℕ) → one_if (is_between 128 191 b) + one_if (begins_character b) ≡ 1
continues_or_begins b = grind arith

pub characters_between : (s : List ℕ) → count_by (is_between 128 191) s + count_by begins_character s ≡ length s
characters_between [] = refl
characters_between (b ∷ s) =
    let continue = sum_by-cons (λ x. one_if (is_between 128 191 x)) b s in
    let begin = sum_by-cons (λ x. one_if (begins_character x)) b s in
    let one = continues_or_begins b in
    let rest = characters_between s in
    omega (arith, continue, begin, one, rest)

-- a line's column grows with each character
pub column_along : (c : ℕ) (s : List ℕ) → count_by is_newline s ≡ 0 → fold next_column c s ≡ c + count_by begins_character s
column_along c [] none = omega arith
column_along c (b ∷ s) none =
    go (is_newline b) (begins_character b) (λ d rest. column_along d s rest) (sym (sum_by-cons (λ x. one_if (is_newline x)) b s) ∙ none) ∙
    ap (λ n. c + n) (sym (sum_by-cons (λ x. one_if (begins_character x)) b s))
  where
    go : (x y : Bool) → ((d : ℕ) → count_by is_newline s ≡ 0 → fold next_column d s ≡ d + count_by begins_character s) →
        one_if x + count_by is_newline s ≡ 0 →
        fold next_column (if x then 0 else if y then c + 1 else c) s ≡ c + (one_if y + count_by begins_character s)
    go true y rest none = absurd (omega (arith, none))
    go false true rest none = let h = rest (c + 1) (omega (arith, none)) in omega (arith, h)
    go false false rest none = let h = rest c (omega (arith, none)) in omega (arith, h)

-- where no byte is a newline, none is counted
pub no_newline : (s : List ℕ) → ((i : ℕ) → i < length s → is_newline (slice_index s i) ≡ true → ⊥) → count_by is_newline s ≡ 0
no_newline [] none = refl
no_newline (b ∷ s) none =
    let first = sum_by-cons (λ x. one_if (is_newline x)) b s in
    let rest = no_newline s (λ i within. none (suc i) (omega (arith, within))) in
    let zero_first = go (is_newline b) (none 0 (omega arith)) in
    omega (arith, first, rest, zero_first)
  where
    go : (x : Bool) → (x ≡ true → ⊥) → one_if x ≡ 0
    go true never = absurd (never refl)
    go false never = refl

no_column : (c b : ℕ) → is_newline b ≡ true → next_column c b ≡ 0
no_column c b newline = rw newline refl

-- the column behind a newline
column_behind_newline : (c : ℕ) (s : List ℕ) (n : ℕ) → n < length s → is_newline (slice_index s n) ≡ true → fold next_column c (take (n + 1) s) ≡ 0
column_behind_newline c s n within newline = fold_more next_column c s n 0 within ∙ no_column (fold next_column c (take n s)) (slice_index s n) newline

-- the same, where it is the last one
module _ (s : List ℕ) (n : ℕ) (within : n < length s) (newline : is_newline (slice_index s n) ≡ true) (last : Nowhere (Passes (is_byte 10) s) (n + 1) (length s)) where
  none_behind : count_by is_newline (drop (n + 1) s) ≡ 0
  none_behind =
      no_newline (drop (n + 1) s)
      (λ i below found. last (n + 1 + i) (omega arith) (let len = length-drop (n + 1) s in omega (arith, len, below)) (ap is_newline (sym (get_or-drop (n + 1) s i 0)) ∙ found))

  pub newlines_by_last : count_by is_newline (take (n + 1) s) ≡ count_by is_newline s
  newlines_by_last =
      let parts = sum_by-append (λ x. one_if (is_newline x)) (take (n + 1) s) (drop (n + 1) s) in
      let whole = ap (λ t. count_by is_newline t) (take-append-drop (n + 1) s) in
      omega (arith, parts, whole, none_behind)

  pub column_behind_last : (c : ℕ) → fold next_column c s ≡ count_by begins_character (drop (n + 1) s)
  column_behind_last c =
      let behind =
      ap (λ t. fold next_column c t) (sym (take-append-drop (n + 1) s)) ∙
      fold-append next_column c (take (n + 1) s) (drop (n + 1) s) ∙
      ap (λ d. fold next_column d (drop (n + 1) s)) (column_behind_newline c s n within newline) in
      let line = column_along 0 (drop (n + 1) s) none_behind in
      omega (arith, behind, line)
