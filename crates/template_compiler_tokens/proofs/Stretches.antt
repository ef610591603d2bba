-- Stretches without newlines and without characters of several bytes.
use Rattle.std.proofs.Common.{◌≡◌, ℕ, suc, ◌+◌, ◌-◌, ◌<◌, ◌≤◌, true, false, List, [], ◌∷◌, ◌++◌, length, take, drop, fold, slice_index, refl, sym, ◌∙◌, ap, subst, arith, length-append, length-take, take-add, get_or-take}
use Rattle.std.proofs.lemmas.List.Sums.{fold-append}
use Rattle.std.specs.Str.{IsAscii}
use Rattle.template_compiler_tokens.specs.Bytes.{is_newline, begins_character, next_column, ArePlain}
use Rattle.template_compiler_tokens.proofs.Columns.{column_bound, lines_append}

-- the beginning of plain bytes is plain: no byte of the rest makes up for a column that is wanting
plain_beginning : (xs ys : List ℕ) → ArePlain (xs ++ ys) → ArePlain xs
plain_beginning xs ys plain = record {
  lines = omega (arith, lines_append xs ys, plain.lines);
  columns = λ c.
      let parts = fold-append next_column c xs ys in
      let whole = plain.columns c in
      let low = column_bound c xs in
      let high = column_bound (fold next_column c xs) ys in
      let len = length-append xs ys in
      omega arith;
}

-- a text up to a place, in two parts
pub parted : (s : List ℕ) (begin at : ℕ) → begin ≤ at → take begin s ++ take (at - begin) (drop begin s) ≡ take at s
parted s begin at behind =
    let whole : begin + (at - begin) ≡ at = omega arith in
    sym (take-add begin (at - begin) s) ∙ ap (λ n. take n s) whole

pub plain_before : (s : List ℕ) (at end : ℕ) → at ≤ end → ArePlain (take end s) → ArePlain (take at s)
plain_before s at end behind plain =
    plain_beginning (take at s) (take (end - at) (drop at s)) (subst (λ t. ArePlain t) (sym (parted s at end behind)) plain)

newline_not : (b : ℕ) → (b ≡ 10 → ⊥) → is_newline b ≡ false
newline_not b h = grind arith

small_begins : (b : ℕ) → b < 128 → begins_character b ≡ true
small_begins b h = grind arith

plain_more : (b : ℕ) (s : List ℕ) → is_newline b ≡ false → begins_character b ≡ true → ArePlain s → ArePlain (b ∷ s)
plain_more b s line char rest = record {
  lines = rw line (rest.lines);
  columns = λ c. rw line (rw char (let h = rest.columns (c + 1) in omega arith));
}

-- ASCII bytes without newlines
pub plain_line : (s : List ℕ) → ((i : ℕ) → i < length s → slice_index s i ≡ 10 → ⊥) → IsAscii s → ArePlain s
plain_line [] line small = record { lines = refl; columns = λ c. omega arith }
plain_line (b ∷ s) line small =
    plain_more b s (newline_not b (line 0 (omega arith))) (small_begins b (small 0))
    (plain_line s (λ i h. line (suc i) (omega arith)) (λ i. small (suc i)))

-- the first bytes, as many as stand before a newline
pub plain_first : (s : List ℕ) (n : ℕ) → ((i : ℕ) → i < n → slice_index s i ≡ 10 → ⊥) → IsAscii (take n s) → ArePlain (take n s)
plain_first s n line small =
    plain_line (take n s)
    (λ i within newline. (
    let below : i < n = omega (arith, within, length-take n s) in
    line i below (sym (get_or-take n s i 0 below) ∙ newline)))
    small
