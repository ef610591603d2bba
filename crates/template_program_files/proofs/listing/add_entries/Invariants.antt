-- What stood among the entries so far was found.
use Rattle.std.proofs.Common.{◌≡◌, ◌++◌, take}
use Rattle.template_program_files.specs.Below.{files_in, folders_in}
use Rattle.template_program_files.specs.Views.{names_in, standing_in}
use Rattle.template_program_files.proofs.listing.add_entries.Given as goal

abbrev pub invariant-loop-entry : goal.invariant-loop-entry
invariant-loop-entry l =
    (names_in l.found.files.items ≡ names_in l.fn.found.files.items ++ files_in l.folder (standing_in (take l.entry-index l.entries)))
    × (names_in l.found.folders.items ≡ names_in l.fn.found.folders.items ++ folders_in l.folder
    (standing_in (take l.entry-index l.entries)))
