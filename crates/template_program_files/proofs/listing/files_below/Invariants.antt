-- The first folders were gone through.
use Rattle.template_program_files.specs.Views.{names_in}
use Rattle.template_program_files.proofs.Walking.{IsWalk}
use Rattle.template_program_files.proofs.listing.files_below.Given as goal

abbrev pub invariant-loop-next : goal.invariant-loop-next
invariant-loop-next g l = IsWalk (g.S.Folders.entries l.rt) l.base l.next (names_in l.found.files.items) (names_in l.found.folders.items)
