-- The absolute ones of the paths so far.
use Rattle.std.proofs.Common.{◌≡◌, map, take}
use Rattle.std.specs.List.{filter}
use Rattle.template_program_run.specs.Folders.{is_absolute}
use Rattle.template_program_run.proofs.folder.absolute_paths.Given as goal

abbrev pub invariant-loop-path : goal.invariant-loop-path
invariant-loop-path l =
    map (λ path. path.now) l.absolute.items ≡ filter is_absolute (map (λ path. path.now) (take l.path-index l.paths))
