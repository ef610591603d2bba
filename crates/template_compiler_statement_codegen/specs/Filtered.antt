-- The text of a capture: it goes through the filters, if there are any, and is stored.
use Rattle.template_compiler_tree.specs.Tree.{Expression, Optional, absent, given}
use Rattle.template_compiler_walk.specs.Runnable.{AreFilters}
use Rattle.template_compiler_codegen.specs.Expressions.{Coded, then_code, filters_code}
use Rattle.template_compiler_codegen.specs.Statements.{target_code}

abbrev pub AreFiltersIfGiven : Optional → Type 0
AreFiltersIfGiven absent = Unit {0}
AreFiltersIfGiven (given filters) = AreFilters filters

abbrev pub filtered_store : Optional → Expression → Coded
filtered_store absent target = target_code target
filtered_store (given filters) target = then_code (filters_code filters) (target_code target)
