-- The templates that the words name, where they name a folder.
use Rattle.std.specs.Prelude.{◌≡◌, ◌⊎◌, ℕ, Bool, true, false, codes, nat_eq, List, [], ◌∷◌, ◌++◌, All, Contains, IfSome, IsSomeAnd, Option, None, Some, String, string_bytes}
use Rattle.std.specs.List.{filter}
use Rattle.std.specs.List.Sorted.{IsStrictlySortedBy}
use Rattle.std.specs.Cmp.Lexicographic.{slice_cmp}
use Rattle.std.specs.Ordering.{nat_cmp}
use Rattle.std.specs.declared.alloc.Global.{Global}
use Rattle.template_compiler_syntax.specs.Syntax.{Syntax}
use Rattle.template_program_files.specs.Below.{IsBelow, IsNamedBelow, maybe, name_below, surely}
use Rattle.template_program_files.specs.Refused.{IsRefused}
use Rattle.template_program_files.specs.Views.{SaysText, file_names}
use Rattle.template_program_files.specs.declared.folder_files.FolderFile.{FolderFile}
use Rattle.template_program_reached.specs.Sifted.{Sifts}
use Rattle.template_program_run.specs.Templates.{AreTemplates, LacksTemplate, input_limit}
use Rattle.template_program_run.specs.Naming.{Naming, main_of, reads_input_beside}
use Rattle.template_program_run.specs.Told.{Told}

-- the files below a folder, in the order of their names, each with its text, unless it is none
pub record IsFolder (told : Told) (path : List ℕ) (files : List FolderFile) : Type 0 where
  pub ascending : IsStrictlySortedBy (slice_cmp nat_cmp) (file_names files)
  pub complete : (folders : List (List ℕ)) (name : List ℕ) → IsBelow (surely told.entries) (path ++ codes "/") folders name
      → Contains (file_names files) (name_below folders name)
  pub sound : All (IsNamedBelow (maybe told.entries) (path ++ codes "/")) (file_names files)
  pub texts : All (λ file. IfSome (told.content (path ++ codes "/" ++ string_bytes file.name)) (SaysText file.text)) files

-- a file as a template, if it is a text
abbrev pub template_in : String Global → Option (String Global) → List (List ℕ × List ℕ)
template_in name None = []
template_in name (Some text) = (string_bytes name, string_bytes text) ∷ []

-- the files that are texts, as templates
abbrev pub folder_templates : List FolderFile → List (List ℕ × List ℕ)
folder_templates [] = []
folder_templates (file ∷ files) = template_in file.name file.text ++ folder_templates files

-- a file of the name stands there, and is a text
pub record IsText (files : List FolderFile) (name : List ℕ) : Type 0 where
  pub file : FolderFile
  pub there : Contains files file
  pub named : string_bytes file.name ≡ name
  pub text : String Global
  pub is : file.text ≡ Some text

-- a file of the name stands there, and is no text
pub record IsNoText (files : List FolderFile) (name : List ℕ) : Type 0 where
  pub file : FolderFile
  pub there : Contains files file
  pub named : string_bytes file.name ≡ name
  pub none : file.text ≡ None

-- whether the file of a name is a text, if one stands there
abbrev pub TellsText : List FolderFile → List ℕ → Option Bool → Type 0
TellsText files name None = ¬ Contains (file_names files) name
TellsText files name (Some true) = IsText files name
TellsText files name (Some false) = IsNoText files name

-- a path that begins with a `/` is read as it is; any other is a name in the folder
abbrev pub is_absolute : List ℕ → Bool
is_absolute [] = false
is_absolute (c ∷ path) = nat_eq c 47

-- a path that is a name in the folder has a text there
abbrev pub IsPathIn : List FolderFile → List ℕ → Type 0
IsPathIn files path = is_absolute path ≡ false → IsText files path

-- a name in the folder that has no text there
pub record IsLacking (files : List FolderFile) (path : List ℕ) : Type 0 where
  pub relative : is_absolute path ≡ false
  pub lacking : ¬ Contains (file_names files) path ⊎ IsNoText files path

-- one of the paths is lacking
abbrev pub RefusesPaths : List FolderFile → List (List ℕ) → Type 0
RefusesPaths files paths = (path : List ℕ) × Contains paths path × IsLacking files path

-- the name of the main template has a text in the folder, or stands not there
abbrev pub MayBeMain : List FolderFile → List ℕ → Type 0
MayBeMain files name = ¬ Contains (file_names files) name ⊎ IsText files name

-- a main template is named by a file that is no text
abbrev pub RefusesMain : List FolderFile → Option (List ℕ) → Type 0
RefusesMain files main = IsSomeAnd main (IsNoText files)

-- Each path that is no absolute one names a text in the folder, and so does the main template's name, if it stands there.
-- The templates are the folder's, and behind them the files of the absolute paths, or the input, if it is read.
pub record AreBelow (told : Told) (folder : List ℕ) (naming : Naming) (all : List (List ℕ × List ℕ)) : Type 0 where
  pub files : List FolderFile
  pub behind : List (List ℕ × List ℕ)
  pub stands : IsFolder told folder files
  pub named : All (IsPathIn files) naming.paths
  pub main_named : IfSome naming.main (MayBeMain files)
  pub read : AreTemplates told.content told.input (filter is_absolute naming.paths) behind (reads_input_beside naming)
  pub are : all ≡ folder_templates files ++ behind

-- of these the ones that the main template reaches, or that can be read
pub record AreSifted (told : Told) (folder : List ℕ) (naming : Naming) (syntax : Syntax) (additions : List (List ℕ × List ℕ)) : Type 0 where
  pub all : List (List ℕ × List ℕ)
  pub below : AreBelow told folder naming all
  pub sifted : Sifts syntax all (main_of naming) all additions

-- the folder cannot be read, or a path that is given names no text in it, or the main template's name a file that is no text, or
-- a file of an absolute path or the input cannot be had
pub data LacksSifted (told : Told) (folder : List ℕ) (naming : Naming) : Type 0 where
  no_folder : IsRefused told.entries told.content folder input_limit → LacksSifted told folder naming
  no_path : {files : List FolderFile} → IsFolder told folder files → RefusesPaths files naming.paths → LacksSifted told folder naming
  no_main : {files : List FolderFile} → IsFolder told folder files → RefusesMain files naming.main → LacksSifted told folder naming
  no_more : LacksTemplate told.content told.may_fail told.input (filter is_absolute naming.paths) (reads_input_beside naming) → LacksSifted told folder naming
