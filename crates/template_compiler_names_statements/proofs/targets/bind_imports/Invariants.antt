-- What is left ends as all does.
use Rattle.std.proofs.Common.{drop}
use Rattle.template_compiler_tree_statements.specs.View.{imports_in}
use Rattle.template_compiler_names.specs.Names.{is_imported}
use Rattle.template_compiler_names.specs.declared.state.Names.{Names}
use Rattle.template_compiler_names.specs.Goes.{Goes, no_place}
use Rattle.template_compiler_names_statements.proofs.targets.bind_imports.Given as goal

abbrev pub invariant-loop-import : goal.invariant-loop-import
invariant-loop-import l = (c : Names) →
    Goes no_place (λ name. is_imported name (imports_in (drop l.import-index l.imports))) l.names c →
    Goes no_place (λ name. is_imported name (imports_in l.imports)) l.initial.names c
