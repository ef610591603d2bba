-- Folders are gone through one after another.
use Rattle.std.proofs.Common.{◌≡◌, ◌∙◌, ℕ, ◌+◌, ◌<◌, ◌≤◌, codes, List, [], ◌∷◌, ◌++◌, length, get_or, Option, None, Some, refl, sym, ap, subst, arith, below_more, String, string_bytes}
use Rattle.std.specs.List.{All, Contains}
use Rattle.std.specs.declared.alloc.Global.{Global}
use Rattle.std.specs.Option.{IfSome}
use Rattle.std.specs.declared.io.ErrorKind.{ErrorKind}
use Rattle.std.specs.declared.io.ErrorKind.TheVariants.{OutOfMemory}
use Rattle.template_program_parts.specs.Faults.{fault_of_read}
use Rattle.template_program_parts.specs.declared.faults.FileFault.TheVariants.{File, Memory}
use Rattle.std.proofs.lemmas.List.{append-nil, get_or-map, append_assoc, get_or_append_left, get_or_default}
use Rattle.std.proofs.lemmas.List.Elements.{All-append, All-get_or, Contains-append_left, Contains-append_right}
use Rattle.std.proofs.lemmas.Option.{IfSome_then}
use Rattle.template_program_files.specs.Below.{Standing, file, folder, IsBelow, IsFolderBelow, IsNamedBelow, files_in, folders_in, maybe, name_below, surely}
use Rattle.template_program_files.specs.Views.{names_in}
use Rattle.template_program_files.proofs.Within.{all_files, all_folders, file_among, file_below, folder_among, folder_below, told_both}

-- what is told to stand in the folder was found
abbrev pub IsListed : (List ℕ → Option (List Standing)) → List ℕ → List (List ℕ) → List (List ℕ) → List ℕ → Type 0
IsListed entries path files folders p = IfSome (entries (path ++ p)) (λ all.
    ((name : List ℕ) → Contains all (file name) → Contains files (p ++ name))
    × ((name : List ℕ) → Contains all (folder name) → Contains folders (p ++ name ++ codes "/")))

-- the first folders were gone through
pub record IsWalk (entries : List ℕ → Option (List Standing)) (path : List ℕ) (next : ℕ) (files folders : List (List ℕ)) : Type 0 where
  pub begins : Contains folders []
  pub listed : (k : ℕ) → k < next → k < length folders → IsListed entries path files folders (get_or folders k [])
  pub files_are : All (IsNamedBelow (maybe entries) path) files
  pub folders_are : All (IsFolderBelow (maybe entries) path) folders

pub walk_goes : (entries : List ℕ → Option (List Standing)) (path : List ℕ) (next : ℕ)
    (files folders more_files more_folders : List (List ℕ)) (p : List ℕ)
    (xs : List Standing) → next < length folders → p ≡ get_or folders next [] → IfSome (entries (path ++ p)) (λ all. xs ≡ all)
    → more_files ≡ files ++ files_in p xs → more_folders ≡ folders ++ folders_in p xs → IsWalk entries path next files folders
    → IsWalk entries path (next + 1) more_files more_folders
walk_goes entries path next files folders more_files more_folders p xs within at told new_files new_folders is =
    let here : IsFolderBelow (maybe entries) path p =
    subst (IsFolderBelow (maybe entries) path) (sym at)
    (All-get_or (IsFolderBelow (maybe entries) path) folders next [] within (is.folders_are)) in
    let stands : (x : Standing) → Contains xs x → maybe entries (path ++ p) x =
    λ x h. IfSome_then (entries (path ++ p)) told (λ all e. subst (λ (ys : List Standing). Contains ys x) e h) in
    let file_stays : (q : List ℕ) → Contains files q → Contains more_files q =
    λ q h. subst (λ (ns : List (List ℕ)). Contains ns q) (sym new_files) (Contains-append_left files (files_in p xs) q h) in
    let folder_stays : (q : List ℕ) → Contains folders q → Contains more_folders q =
    λ q h. subst (λ (ns : List (List ℕ)). Contains ns q) (sym new_folders) (Contains-append_left folders (folders_in p xs) q h) in
    let same : (k : ℕ) → k < length folders → get_or more_folders k [] ≡ get_or folders k [] =
    λ k h. ap (λ (ns : List (List ℕ)). get_or ns k []) new_folders ∙ get_or_append_left folders (folders_in p xs) [] k h in
    record {
      begins = folder_stays [] (is.begins);
      listed = below_more (λ (k : ℕ). k < length more_folders
          → IsListed entries path more_files more_folders (get_or more_folders k [])) next
          (λ k h j.
          let old : k < length folders = omega (arith, h, within) in
          subst (IsListed entries path more_files more_folders) (sym (same k old))
          (IfSome_then (entries (path ++ get_or folders k [])) (is.listed k h old)
          (λ all l. (
            λ name c. file_stays (get_or folders k [] ++ name) (l.0 name c),
            λ name c. folder_stays (get_or folders k [] ++ name ++ codes "/") (l.1 name c),
          ))))
          (λ j. subst (IsListed entries path more_files more_folders) (at ∙ sym (same next within))
          (IfSome_then (entries (path ++ p)) told
          (λ all e. (
            λ name c. subst (λ (ns : List (List ℕ)). Contains ns (p ++ name)) (sym new_files)
                (Contains-append_right files (files_in p xs) (p ++ name)
                (file_among p xs name (subst (λ (ys : List Standing). Contains ys (file name)) (sym e) c))),
            λ name c. subst (λ (ns : List (List ℕ)). Contains ns (p ++ name ++ codes "/")) (sym new_folders)
                (Contains-append_right folders (folders_in p xs) (p ++ name ++ codes "/")
                (folder_among p xs name (subst (λ (ys : List Standing). Contains ys (folder name)) (sym e) c))),
          ))));
      files_are = subst (All (IsNamedBelow (maybe entries) path)) (sym new_files)
          (All-append (IsNamedBelow (maybe entries) path) files (files_in p xs) (is.files_are)
          (all_files (IsNamedBelow (maybe entries) path) p xs
          (λ name h. file_below (maybe entries) path p name here (stands (file name) h))));
      folders_are = subst (All (IsFolderBelow (maybe entries) path)) (sym new_folders)
          (All-append (IsFolderBelow (maybe entries) path) folders (folders_in p xs) (is.folders_are)
          (all_folders (IsFolderBelow (maybe entries) path) p xs
          (λ name h. folder_below (maybe entries) path p name here (stands (folder name) h))));
    }

-- what stands below a folder that was found
below_found : (entries : List ℕ → Option (List Standing)) (path : List ℕ) (next : ℕ) (files folders : List (List ℕ)) → length folders ≤ next
    → IsWalk entries path next files folders → (p : List ℕ) (inner : List (List ℕ)) (name : List ℕ) → Contains folders p
    → IsBelow (surely entries) (path ++ p) inner name → Contains files (p ++ name_below inner name)
below_found entries path next files folders done is p [] name (k, h, e) below =
    let stands : get_or folders k [] ≡ p = get_or_default folders k [] p h ∙ e in
    let both = told_both (entries (path ++ p)) (λ all. Contains all (file name)) _ below
    (subst (IsListed entries path files folders) stands (is.listed k (omega arith) h)) in
    both.2.0 name (both.1)
below_found entries path next files folders done is p (f ∷ inner) name (k, h, e) below =
    let stands : get_or folders k [] ≡ p = get_or_default folders k [] p h ∙ e in
    let both = told_both (entries (path ++ p)) (λ all. Contains all (folder f)) _ (below.0)
    (subst (IsListed entries path files folders) stands (is.listed k (omega arith) h)) in
    let group : path ++ p ++ f ++ codes "/" ≡ path ++ (p ++ f ++ codes "/") =
    ap (λ (s : List ℕ). s ++ codes "/") (append_assoc path p f) ∙ append_assoc path (p ++ f) (codes "/") in
    let inside = below_found entries path next files folders done is (p ++ f ++ codes "/") inner name (both.2.1 f (both.1))
    (subst (λ (s : List ℕ). IsBelow (surely entries) s inner name) group (below.1)) in
    subst (Contains files)
    (ap (λ (s : List ℕ). s ++ name_below inner name) (append_assoc p f (codes "/"))
    ∙ append_assoc p (f ++ codes "/") (name_below inner name)) inside

pub walk_ends : (entries : List ℕ → Option (List Standing)) (path : List ℕ) (next : ℕ) (files folders : List (List ℕ))
    → length folders ≤ next
    → IsWalk entries path next files folders → (inner : List (List ℕ)) (name : List ℕ) → IsBelow (surely entries) path inner name
    → Contains files (name_below inner name)
walk_ends entries path next files folders done is inner name below =
    below_found entries path next files folders done is [] inner name (is.begins)
    (subst (λ (s : List ℕ). IsBelow (surely entries) s inner name) (sym (append-nil path)) below)

-- the next folder, of which a copy is made
pub named_next : (folders : List (String Global)) (next : ℕ) (read copy : String Global) → next < length folders
    → read ≡ get_or folders next read
    → string_bytes copy ≡ string_bytes read → string_bytes copy ≡ get_or (names_in folders) next []
named_next folders next read copy within is copied = copied ∙ ap string_bytes is ∙ sym (get_or-map string_bytes folders next read [] within)

-- the path by which it is asked for
pub asked_at : (path asked whole last first : List ℕ) → asked ≡ whole → whole ≡ path ++ first → first ≡ last → asked ≡ path ++ last
asked_at path asked whole last first asks is same = asks ∙ is ∙ ap (λ (s : List ℕ). path ++ s) same

-- where a folder is refused, but for want of memory, nothing is told of it
pub nothing_told : {A : Type 0} (o : Option A) (kind : ErrorKind) → File ≡ fault_of_read kind → IfSome o (λ _. kind ≡ OutOfMemory)
    → o ≡ None
nothing_told None kind gives refused = refl
nothing_told (Some x) kind gives refused = let memory : fault_of_read kind ≡ Memory = ap fault_of_read refused in absurd (cc)
