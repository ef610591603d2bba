-- The templates so far have the paths so far as their names, and hold the files.
use Rattle.std.proofs.Common.{◌≡◌, All, map, take}
use Rattle.template_program_parts.specs.Context.{text_pairs}
use Rattle.template_program_run.specs.Templates.{IsReadFrom, addition_names}
use Rattle.template_program_run.proofs.inputs.read_files.Given as goal

abbrev pub invariant-loop-path : goal.invariant-loop-path
invariant-loop-path g l = record {
  named : addition_names (text_pairs l.templates.items) ≡ map (λ path. path.now) (take l.path-index l.paths);
  read : All (IsReadFrom (g.R.FileSystem.content l.rt)) (text_pairs l.templates.items);
}
