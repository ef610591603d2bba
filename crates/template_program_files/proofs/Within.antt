-- Folders within one another.
use Rattle.std.proofs.Common.{◌≡◌, ◌∙◌, ℕ, zero, suc, codes, List, [], ◌∷◌, ◌++◌, Option, None, Some, refl, sym, ap, subst, arith}
use Rattle.std.specs.List.{All, Contains}
use Rattle.std.specs.Option.{IfSome, IsSomeAnd}
use Rattle.std.proofs.lemmas.List.{append-nil, append_assoc}
use Rattle.std.proofs.lemmas.List.Elements.{All-cons, All-nil}
use Rattle.template_program_files.specs.Below.{Standing, file, folder, IsBelow, IsFolderBelow, IsWithin, path_of, IsNamedBelow, files_in, folders_in, name_below}
use Rattle.template_program_files.proofs.Named.{among_first, among_more}

-- the path from one folder on, in two ways
regroup : (path f rest : List ℕ) → path ++ (f ++ codes "/" ++ rest) ≡ path ++ f ++ codes "/" ++ rest
regroup path f rest = ap (λ (s : List ℕ). path ++ s) (append_assoc f (codes "/") rest)
    ∙ sym (append_assoc (path ++ f) (codes "/") rest ∙ append_assoc path f (codes "/" ++ rest))

file_within : (Stands : List ℕ → Standing → Type 0) (path : List ℕ) (folders : List (List ℕ)) (name : List ℕ) → IsWithin Stands path folders
    → Stands (path ++ path_of folders) (file name) → IsBelow Stands path folders name
file_within Stands path [] name within stands = subst (λ (p : List ℕ). Stands p (file name)) (append-nil path) stands
file_within Stands path (f ∷ folders) name within stands = (
  within.0,
  file_within Stands (path ++ f ++ codes "/") folders name (within.1)
      (subst (λ (p : List ℕ). Stands p (file name)) (regroup path f (path_of folders)) stands),
)

name_within : (folders : List (List ℕ)) (name : List ℕ) → path_of folders ++ name ≡ name_below folders name
name_within [] name = refl
name_within (f ∷ folders) name = append_assoc (f ++ codes "/") (path_of folders) name
    ∙ ap (λ (s : List ℕ). f ++ codes "/" ++ s) (name_within folders name)

folder_within : (Stands : List ℕ → Standing → Type 0) (path : List ℕ) (folders : List (List ℕ)) (name : List ℕ)
    → IsWithin Stands path folders
    → Stands (path ++ path_of folders) (folder name) → IsWithin Stands path (folders ++ name ∷ [])
folder_within Stands path [] name within stands = (subst (λ (p : List ℕ). Stands p (folder name)) (append-nil path) stands, tt)
folder_within Stands path (f ∷ folders) name within stands = (
  within.0,
  folder_within Stands (path ++ f ++ codes "/") folders name (within.1)
      (subst (λ (p : List ℕ). Stands p (folder name)) (regroup path f (path_of folders)) stands),
)

path_within : (folders : List (List ℕ)) (name : List ℕ) → path_of folders ++ name ++ codes "/" ≡ path_of (folders ++ name ∷ [])
path_within [] name = sym (append-nil (name ++ codes "/"))
path_within (f ∷ folders) name =
    ap (λ (s : List ℕ). s ++ codes "/") (append_assoc (f ++ codes "/") (path_of folders) name)
    ∙ append_assoc (f ++ codes "/") (path_of folders ++ name) (codes "/")
    ∙ ap (λ (s : List ℕ). f ++ codes "/" ++ s) (path_within folders name)

-- what stands in a folder that stands below
pub file_below : (Stands : List ℕ → Standing → Type 0) (path p name : List ℕ) → IsFolderBelow Stands path p → Stands (path ++ p) (file name)
    → IsNamedBelow Stands path (p ++ name)
file_below Stands path p name is stands = record {
  folders = is.folders;
  name = name;
  is = ap (λ (s : List ℕ). s ++ name) (is.is) ∙ name_within (is.folders) name;
  below = file_within Stands path (is.folders) name (is.within) (subst (λ (s : List ℕ). Stands (path ++ s) (file name)) (is.is) stands);
}

pub folder_below : (Stands : List ℕ → Standing → Type 0) (path p name : List ℕ) → IsFolderBelow Stands path p
    → Stands (path ++ p) (folder name)
    → IsFolderBelow Stands path (p ++ name ++ codes "/")
folder_below Stands path p name is stands = record {
  folders = is.folders ++ name ∷ [];
  is = ap (λ (s : List ℕ). s ++ name ++ codes "/") (is.is) ∙ path_within (is.folders) name;
  within = folder_within Stands path (is.folders) name (is.within)
      (subst (λ (s : List ℕ). Stands (path ++ s) (folder name)) (is.is) stands);
}

-- the files and the folders of what stands in a folder
pub files_append : (p : List ℕ) (xs ys : List Standing) → files_in p (xs ++ ys) ≡ files_in p xs ++ files_in p ys
files_append p [] ys = refl
files_append p (file name ∷ xs) ys = ap (λ (ns : List (List ℕ)). (p ++ name) ∷ ns) (files_append p xs ys)
files_append p (folder name ∷ xs) ys = files_append p xs ys

pub folders_append : (p : List ℕ) (xs ys : List Standing) → folders_in p (xs ++ ys) ≡ folders_in p xs ++ folders_in p ys
folders_append p [] ys = refl
folders_append p (file name ∷ xs) ys = folders_append p xs ys
folders_append p (folder name ∷ xs) ys = ap (λ (ns : List (List ℕ)). (p ++ name ++ codes "/") ∷ ns) (folders_append p xs ys)

pub file_among : (p : List ℕ) (xs : List Standing) (name : List ℕ) → Contains xs (file name) → Contains (files_in p xs) (p ++ name)
file_among p [] name (k, h, e) = absurd (omega arith)
file_among p (file n ∷ xs) name (zero, h, e) =
    let same : n ≡ name = cc in
    subst (λ (s : List ℕ). Contains ((p ++ n) ∷ files_in p xs) (p ++ s)) same (among_first (p ++ n) (files_in p xs))
file_among p (folder n ∷ xs) name (zero, h, e) = absurd (cc)
file_among p (file n ∷ xs) name (suc k, h, e) = among_more (p ++ n) (files_in p xs) (p ++ name) (file_among p xs name (k, omega arith, e))
file_among p (folder n ∷ xs) name (suc k, h, e) = file_among p xs name (k, omega arith, e)

pub folder_among : (p : List ℕ) (xs : List Standing) (name : List ℕ) → Contains xs (folder name)
    → Contains (folders_in p xs) (p ++ name ++ codes "/")
folder_among p [] name (k, h, e) = absurd (omega arith)
folder_among p (folder n ∷ xs) name (zero, h, e) =
    let same : n ≡ name = cc in
    subst (λ (s : List ℕ). Contains ((p ++ n ++ codes "/") ∷ folders_in p xs) (p ++ s ++ codes "/")) same
    (among_first (p ++ n ++ codes "/") (folders_in p xs))
folder_among p (file n ∷ xs) name (zero, h, e) = absurd (cc)
folder_among p (folder n ∷ xs) name (suc k, h, e) =
    among_more (p ++ n ++ codes "/") (folders_in p xs) (p ++ name ++ codes "/") (folder_among p xs name (k, omega arith, e))
folder_among p (file n ∷ xs) name (suc k, h, e) = folder_among p xs name (k, omega arith, e)

pub all_files : (P : List ℕ → Type 0) (p : List ℕ) (xs : List Standing) → ((name : List ℕ) → Contains xs (file name) → P (p ++ name))
    → All P (files_in p xs)
all_files P p [] each = All-nil P
all_files P p (file n ∷ xs) each =
    All-cons P (p ++ n) (files_in p xs) (each n (among_first (file n) xs))
    (all_files P p xs (λ name h. each name (among_more (file n) xs (file name) h)))
all_files P p (folder n ∷ xs) each = all_files P p xs (λ name h. each name (among_more (folder n) xs (file name) h))

pub all_folders : (P : List ℕ → Type 0) (p : List ℕ) (xs : List Standing)
    → ((name : List ℕ) → Contains xs (folder name) → P (p ++ name ++ codes "/"))
    → All P (folders_in p xs)
all_folders P p [] each = All-nil P
all_folders P p (folder n ∷ xs) each =
    All-cons P (p ++ n ++ codes "/") (folders_in p xs) (each n (among_first (folder n) xs))
    (all_folders P p xs (λ name h. each name (among_more (folder n) xs (folder name) h)))
all_folders P p (file n ∷ xs) each = all_folders P p xs (λ name h. each name (among_more (file n) xs (folder name) h))

-- two facts of what is told
pub told_both : {A : Type 0} (o : Option A) (P Q : A → Type 0) → IsSomeAnd o P → IfSome o Q → (x : A) × P x × Q x
told_both (Some x) P Q p q = (x, p, q)
told_both None P Q p q = absurd p
