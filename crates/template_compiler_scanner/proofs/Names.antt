-- Names in a text.
use Rattle.std.proofs.Common.{◌≡◌, ℕ, zero, suc, ◌<◌, ◌≤◌, true, false, List, [], ◌∷◌, ◌+◌, drop, length, get_or, IsUtf8, IsCharBoundary, sym, add-one, arith}
use Rattle.std.specs.List.{prefix_len}
use Rattle.std.proofs.lemmas.Str.{IsCharBoundary-start, IsCharBoundary-after_ascii}
use Rattle.std.proofs.lemmas.List.Sums.{prefix_len_is, prefix_len_passes, prefix_len-le-length}
use Rattle.std.proofs.lemmas.Bool.{false≢true}
use Rattle.std.proofs.lemmas.Bool.Decides.{nat_tests}
use Rattle.template_compiler_tokens.specs.Lexical.{is_name_start, is_name_part}

part_ascii : (b : ℕ) → is_name_part b ≡ true → b < 128
unfolding is_name_part
part_ascii b e = grind (arith, nat_tests)

-- a text may be cut behind bytes that may stand in a name
name_boundary : (s : List ℕ) (n : ℕ) → IsUtf8 s → n ≤ length s →
    ((k : ℕ) → k < n → is_name_part (get_or s k 0) ≡ true) → IsCharBoundary s n
name_boundary s zero u h parts = IsCharBoundary-start s u
name_boundary s (suc n) u h parts =
    rw (add-one n) at (IsCharBoundary-after_ascii s n u h (part_ascii (get_or s n 0) (parts n (omega arith))))

-- the first place that may not stand in a name
pub name_len_is : (s : List ℕ) (n : ℕ) → n ≤ length s → ((k : ℕ) → k < n → is_name_part (get_or s k 0) ≡ true) →
    (n < length s → is_name_part (get_or s n 0) ≡ false) → n ≡ prefix_len is_name_part s
name_len_is s n h parts stop = sym (prefix_len_is is_name_part s n 0 h parts stop)

-- a text may be cut behind a name
pub name_cut : (s : List ℕ) → IsUtf8 s → IsCharBoundary s (prefix_len is_name_part s)
name_cut s u =
    name_boundary s (prefix_len is_name_part s) u (prefix_len-le-length is_name_part s)
    (λ k h. prefix_len_passes is_name_part s k 0 h)

pub start_part : (b : ℕ) → is_name_start b ≡ true → is_name_part b ≡ true
unfolding is_name_part is_name_start
start_part b e = grind (arith, nat_tests)

pub begun_some : (s : List ℕ) → is_name_part (get_or s 0 0) ≡ true → 1 ≤ length s
unfolding is_name_part
begun_some [] e = absurd (false≢true e)
begun_some (b ∷ s) e = omega arith

-- a name behind its first byte
pub begun_len : (s : List ℕ) → is_name_part (get_or s 0 0) ≡ true → 1 + prefix_len is_name_part (drop 1 s) ≡ prefix_len is_name_part s
begun_len [] e = let some = begun_some [] e in absurd (omega arith)
begun_len (b ∷ s) e = rw e (omega arith)
