-- What stands below a folder.
use Rattle.std.specs.Prelude.{◌≡◌, ℕ, codes, List, [], ◌∷◌, ◌++◌, Option, IfSome, IsSomeAnd}
use Rattle.std.specs.List.{Contains}

-- what stands in a folder under its name
pub data Standing : Type 0 where
  file : List ℕ → Standing
  folder : List ℕ → Standing

-- it is told to stand in the folder at a path
abbrev pub surely : (List ℕ → Option (List Standing)) → List ℕ → Standing → Type 0
surely entries path x = IsSomeAnd (entries path) (λ all. Contains all x)

-- it is told to stand there, or nothing is told
abbrev pub maybe : (List ℕ → Option (List Standing)) → List ℕ → Standing → Type 0
maybe entries path x = IfSome (entries path) (λ all. Contains all x)

-- in the folder at a path, which ends in a `/`, stands a folder, in that another one, and so on, and in the last one the file
abbrev pub IsBelow : (List ℕ → Standing → Type 0) → List ℕ → List (List ℕ) → List ℕ → Type 0
IsBelow Stands path [] name = Stands path (file name)
IsBelow Stands path (f ∷ folders) name = Stands path (folder f) × IsBelow Stands (path ++ f ++ codes "/") folders name

-- the path from there: the names of the folders, each with a `/` behind it, and that of the file
abbrev pub name_below : List (List ℕ) → List ℕ → List ℕ
name_below [] name = name
name_below (f ∷ folders) name = f ++ codes "/" ++ name_below folders name

-- it is the path of a file that stands there
pub record IsNamedBelow (Stands : List ℕ → Standing → Type 0) (path whole : List ℕ) : Type 0 where
  pub folders : List (List ℕ)
  pub name : List ℕ
  pub is : whole ≡ name_below folders name
  pub below : IsBelow Stands path folders name

-- folders that stand within one another, from a path on
abbrev pub IsWithin : (List ℕ → Standing → Type 0) → List ℕ → List (List ℕ) → Type 0
IsWithin Stands path [] = Unit {0}
IsWithin Stands path (f ∷ folders) = Stands path (folder f) × IsWithin Stands (path ++ f ++ codes "/") folders

-- the path from there: the names, each with a `/` behind it
abbrev pub path_of : List (List ℕ) → List ℕ
path_of [] = []
path_of (f ∷ folders) = f ++ codes "/" ++ path_of folders

-- it is the path of a folder that stands there, with a `/` behind it; from the one above on, that is empty
pub record IsFolderBelow (Stands : List ℕ → Standing → Type 0) (path whole : List ℕ) : Type 0 where
  pub folders : List (List ℕ)
  pub is : whole ≡ path_of folders
  pub within : IsWithin Stands path folders

-- the files that stand in a folder, by their paths from further above
abbrev pub files_in : List ℕ → List Standing → List (List ℕ)
files_in before [] = []
files_in before (file name ∷ xs) = (before ++ name) ∷ files_in before xs
files_in before (folder name ∷ xs) = files_in before xs

-- and the folders, each with a `/` behind it
abbrev pub folders_in : List ℕ → List Standing → List (List ℕ)
folders_in before [] = []
folders_in before (file name ∷ xs) = folders_in before xs
folders_in before (folder name ∷ xs) = (before ++ name ++ codes "/") ∷ folders_in before xs
