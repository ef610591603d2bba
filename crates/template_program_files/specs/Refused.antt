-- Why a folder is refused, where memory is left.
use Rattle.std.specs.Prelude.{◌≡◌, ℕ, ◌≤◌, ◌+◌, codes, List, [], ◌∷◌, ◌++◌, length, sum_by, Option, None, IfSome, string_bytes}
use Rattle.std.specs.List.{All}
use Rattle.std.specs.List.Sorted.{IsStrictlySortedBy}
use Rattle.std.specs.Cmp.Lexicographic.{slice_cmp}
use Rattle.std.specs.Ordering.{nat_cmp}
use Rattle.template_program_files.specs.Below.{Standing, IsFolderBelow, IsNamedBelow, maybe}
use Rattle.template_program_files.specs.Views.{SaysText, file_names, text_size}
use Rattle.template_program_files.specs.declared.folder_files.FolderFile.{FolderFile}

-- behind the first files of the names stands one of which nothing is told, or with which the limit is reached
pub record LacksFile (content : List ℕ → Option (List ℕ)) (path : List ℕ) (limit : ℕ) (names : List (List ℕ)) : Type 0 where
  pub files : List FolderFile
  pub name : List ℕ
  pub later : List (List ℕ)
  pub are : names ≡ file_names files ++ name ∷ later
  pub texts : All (λ f. IfSome (content (path ++ string_bytes f.name)) (SaysText f.text)) files
  pub reached : IfSome (content (path ++ name)) (λ all. limit ≤ sum_by (λ f. text_size f.text) files + length all)

-- the path or the limit leaves nothing, or nothing is told of a folder, or one of the files is lacking
pub data IsRefused (entries : List ℕ → Option (List Standing)) (content : List ℕ → Option (List ℕ)) (path : List ℕ)
    (limit : ℕ) : Type 0 where
  no_path : path ≡ [] → IsRefused entries content path limit
  no_room : limit ≡ 0 → IsRefused entries content path limit
  no_folder : {p : List ℕ} → IsFolderBelow (maybe entries) (path ++ codes "/") p → entries (path ++ codes "/" ++ p) ≡ None →
      IsRefused entries content path limit
  no_file : {names : List (List ℕ)} → IsStrictlySortedBy (slice_cmp nat_cmp) names →
      All (IsNamedBelow (maybe entries) (path ++ codes "/")) names → LacksFile content (path ++ codes "/") limit names →
      IsRefused entries content path limit
