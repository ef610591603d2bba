-- The names so far, and those of the imports that are left.
use Rattle.std.proofs.Common.{◌||◌, drop}
use Rattle.template_compiler_names.specs.Among.{is_among}
use Rattle.template_compiler_names_needed.proofs.Taking.{Left, names_of}
use Rattle.template_compiler_names_needed.proofs.imported.take_names.Given as goal

abbrev pub invariant-loop-import : goal.invariant-loop-import
invariant-loop-import l = Left l.names.items (names_of (drop l.import-index l.imports)) (λ q. is_among l.initial.names.items q || names_of l.imports q)
