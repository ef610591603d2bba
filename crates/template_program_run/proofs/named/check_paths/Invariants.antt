-- The paths so far that are no absolute ones name texts.
use Rattle.std.proofs.Common.{All, take}
use Rattle.template_program_run.specs.Folders.{IsPathIn}
use Rattle.template_program_run.proofs.named.check_paths.Given as goal

abbrev pub invariant-loop-path : goal.invariant-loop-path
invariant-loop-path l = All (λ path. IsPathIn l.files path.now) (take l.path-index l.paths)
