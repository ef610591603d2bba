-- What contracts see of entries, names and files.
use Rattle.std.specs.Prelude.{◌≡◌, ℕ, List, map, Option, None, Some, String, string_bytes, string_len, IsUtf8}
use Rattle.std.specs.declared.alloc.Global.{Global}
use Rattle.template_program_files.specs.Below.{Standing, file, folder}
use Rattle.template_program_files.specs.declared.folder_files.FolderFile.{FolderFile}
use Rattle.template_program_files.specs.declared.folders.Entry.{Entry}
use Rattle.template_program_files.specs.declared.folders.Entry.TheVariants.{File, Folder}

abbrev pub entry_of : Entry → Standing
entry_of (File name) = file (string_bytes name)
entry_of (Folder name) = folder (string_bytes name)

abbrev pub standing_in : List Entry → List Standing
standing_in entries = map entry_of entries

abbrev pub names_in : List (String Global) → List (List ℕ)
names_in names = map string_bytes names

abbrev pub file_names : List FolderFile → List (List ℕ)
file_names files = map (λ f. string_bytes f.name) files

-- how many bytes a text takes
abbrev pub text_size : Option (String Global) → ℕ
text_size (Some text) = string_len text
text_size None = 0

-- the bytes of the text; where there is none they are no text
abbrev pub SaysText : Option (String Global) → List ℕ → Type 0
SaysText (Some text) bytes = string_bytes text ≡ bytes
SaysText None bytes = ¬ (IsUtf8 bytes)
