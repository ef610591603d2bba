-- The templates so far, and those of the files that are left.
use Rattle.std.proofs.Common.{◌≡◌, ◌++◌}
use Rattle.std.specs.Vec.Iter.{into_iter_items}
use Rattle.template_program_parts.specs.Context.{text_pairs}
use Rattle.template_program_run.specs.Folders.{folder_templates}
use Rattle.template_program_run.proofs.folder.texts_of.Given as goal

abbrev pub invariant-loop-file : goal.invariant-loop-file
invariant-loop-file l =
    text_pairs l.templates.items ++ folder_templates (into_iter_items l.file-iterator) ≡ folder_templates l.fn.files.items
