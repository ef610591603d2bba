-- Those from a place on are stored.
use Rattle.std.proofs.Common.{◌≤◌, length, drop}
use Rattle.template_compiler_tree_statements.specs.View.{imports_in}
use Rattle.template_compiler_emission.specs.Puts.{Puts}
use Rattle.template_compiler_statement_codegen.specs.Imports.{stores_code}
use Rattle.template_compiler_statement_codegen.proofs.imports.store_names.Given as goal

abbrev pub invariant-loop-left : goal.invariant-loop-left
invariant-loop-left l = record {
  within : l.left ≤ length l.names;
  put : Puts (stores_code (imports_in (drop l.left l.names))) l.initial.code l.code;
}

abbrev pub decreases-loop-left : goal.decreases-loop-left
decreases-loop-left l = l.left
