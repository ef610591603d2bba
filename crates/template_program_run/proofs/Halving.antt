-- What halving finds among the files of a folder.
use Rattle.std.proofs.Common.{◌≡◌, ℕ, zero, suc, ◌+◌, ◌<◌, ◌∙◌, sym, ap, subst, refl, List, [], ◌∷◌, length, get_or, Bool, true, false, Less, Equal, Greater, Contains, arith, string_bytes}
use Rattle.std.specs.Prelude.{Option, None, Some, String, is_some, nat_lt}
use Rattle.std.specs.declared.alloc.Global.{Global}
use borrow.Author.Tests.{ltb-true, ltb-false}
use Rattle.std.specs.List.{AllByRecursion}
use Rattle.std.specs.List.Sorted.{IsNonDecreasingBy, IsSortedBy, IsPartitionPoint, IsStrictlySortedBy}
use Rattle.std.specs.Ordering.{is_eq, is_lt, nat_cmp, ordering_index, ordering_reverse}
use Rattle.std.specs.Cmp.{tied_itself}
use Rattle.std.specs.Cmp.Lexicographic.{bytes_decides, nat_list_cmp_total, slice_cmp, texts_ties}
use Rattle.std.proofs.lemmas.List.Sorted.{searchable_from_sorted}
use Rattle.std.proofs.lemmas.Map.Keys.{sorted_head, sorted_tail}
use Rattle.template_program_files.specs.Views.{file_names}
use Rattle.template_program_run.specs.Folders.{TellsText}
use Rattle.template_program_files.specs.declared.folder_files.FolderFile.{FolderFile}

-- a fact of every name holds of each one
at_name : (P : List ℕ → Type 0) (files : List FolderFile) (i : ℕ) (d : FolderFile) → AllByRecursion P (file_names files)
    → i < length files → P (string_bytes (get_or files i d).name)
at_name P [] i d all h = absurd (omega (arith, h))
at_name P (f ∷ files) zero d all h = all.0
at_name P (f ∷ files) (suc i) d all h = at_name P files i d all.1 (omega (arith, h))

-- an earlier name is below a later one
rising_at : (files : List FolderFile) (i j : ℕ) (d : FolderFile) → IsStrictlySortedBy (slice_cmp nat_cmp) (file_names files) → i < j
    → j < length files → slice_cmp nat_cmp (string_bytes (get_or files i d).name) (string_bytes (get_or files j d).name) ≡ Less
rising_at [] i j d rising h k = absurd (omega (arith, k))
rising_at (f ∷ files) i zero d rising h k = absurd (omega (arith, h))
rising_at (f ∷ files) zero (suc j) d rising h k = at_name (λ y. slice_cmp nat_cmp (string_bytes f.name) y ≡ Less) files j d
    (sorted_head (slice_cmp nat_cmp) (string_bytes f.name) (file_names files) rising) (omega (arith, k))
rising_at (f ∷ files) (suc i) (suc j) d rising h k =
    rising_at files i j d (sorted_tail (slice_cmp nat_cmp) (string_bytes f.name) (file_names files) rising)
    (omega (arith, h)) (omega (arith, k))

not_below : (k j : List ℕ) → slice_cmp nat_cmp k j ≡ Less → is_lt (slice_cmp nat_cmp j k) ≡ false
not_below k j e = ap is_lt (nat_list_cmp_total.antisymm j k ∙ ap ordering_reverse e)

pub names_searchable : (q : List ℕ) (files : List FolderFile) → IsStrictlySortedBy (slice_cmp nat_cmp) (file_names files)
    → IsNonDecreasingBy (λ (y : FolderFile). ordering_index (slice_cmp nat_cmp (string_bytes y.name) q)) files
names_searchable q files rising = searchable_from_sorted nat_list_cmp_total (λ (f : FolderFile). string_bytes f.name) files q sorted
  where
    sorted : IsSortedBy (λ (a b : FolderFile). is_lt (slice_cmp nat_cmp (string_bytes a.name) (string_bytes b.name))) files
    sorted k d low h = not_below (string_bytes (get_or files k d).name) (string_bytes (get_or files (k + 1) d).name)
        (rising_at files k (k + 1) d rising (omega arith) (omega arith))

-- a name that is there is that of a file
named_at : (q : List ℕ) (files : List FolderFile) (k : ℕ) (d : FolderFile) → k < length (file_names files)
    → get_or (file_names files) k q ≡ q → (k < length files) × (string_bytes (get_or files k d).name ≡ q)
named_at q [] k d h e = absurd (omega (arith, h))
named_at q (f ∷ files) zero d h e = (omega arith, e)
named_at q (f ∷ files) (suc k) d h e =
    let rest = named_at q files k d (omega (arith, h)) e in
    (omega (arith, rest.0), rest.1)

-- no name is there where the answers go from less to greater
pub absent_parted : (q : List ℕ) (files : List FolderFile) (i : ℕ)
    → IsPartitionPoint (λ (y : FolderFile). slice_cmp nat_cmp (string_bytes y.name) q ≡ Less)
    (λ (y : FolderFile). slice_cmp nat_cmp (string_bytes y.name) q ≡ Greater) files i → Contains (file_names files) q → ⊥
absent_parted q [] i parted (k, h, e) = absurd (omega (arith, h))
absent_parted q (f ∷ files) i parted (k, h, e) = either (nat_lt k i) refl
  where
    at : (k < length (f ∷ files)) × (string_bytes (get_or (f ∷ files) k f).name ≡ q)
    at = named_at q (f ∷ files) k f h e

    level : slice_cmp nat_cmp (string_bytes (get_or (f ∷ files) k f).name) q ≡ Equal
    level = subst (λ (n : List ℕ). slice_cmp nat_cmp n q ≡ Equal) (sym (at.1)) (tied_itself nat_list_cmp_total q)

    either : (b : Bool) → nat_lt k i ≡ b → ⊥
    either true is =
        let less : slice_cmp nat_cmp (string_bytes (get_or (f ∷ files) k f).name) q ≡ Less = parted.0 k f (omega arith) (ltb-true k i is) in
        let equal : slice_cmp nat_cmp (string_bytes (get_or (f ∷ files) k f).name) q ≡ Equal = level in
        absurd (cc)
    either false is =
        let greater : slice_cmp nat_cmp (string_bytes (get_or (f ∷ files) k f).name) q ≡ Greater = parted.1 k f (ltb-false k i is) (at.0) in
        let equal : slice_cmp nat_cmp (string_bytes (get_or (f ∷ files) k f).name) q ≡ Equal = level in
        absurd (cc)

-- names that are equal in order are one
pub same_name : (xs ys : List ℕ) → slice_cmp nat_cmp xs ys ≡ Equal → xs ≡ ys
same_name xs ys e = (bytes_decides xs ys).0 (texts_ties xs ys ∙ ap is_eq e)

-- a file that stands there tells whether its name's is a text
pub tells_text : (files : List FolderFile) (q : List ℕ) (f : FolderFile) → Contains files f → string_bytes f.name ≡ q
    → TellsText files q (Some (is_some f.text))
tells_text files q f there named = by f.text refl
  where
    by : (t : Option (String Global)) → f.text ≡ t → TellsText files q (Some (is_some t))
    by (Some t) e = record { file = f; there = there; named = named; text = t; is = e }
    by None e = record { file = f; there = there; named = named; none = e }
