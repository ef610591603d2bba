-- What stands among compiled templates.
use Rattle.std.specs.Prelude.{◌≡◌, ℕ, IsTrue, List, Option, Some}
use Rattle.std.specs.BTreeMap.{get_by_text, values}
use Rattle.template_compiled.specs.Compiled.{Compiled}
use Rattle.template_compiled.specs.Names.{uses}
use Rattle.template_compiled.specs.declared.templates.CompiledTemplates.{CompiledTemplates}

-- what stands under a name
abbrev pub compiled_at : CompiledTemplates → List ℕ → Option Compiled
compiled_at templates name = get_by_text templates.by_name name

-- one of those that stand uses the name
abbrev pub IsUsedByOne : CompiledTemplates → List ℕ → Type 0
IsUsedByOne templates name = (other : List ℕ) × (c : Compiled) × (compiled_at templates other ≡ Some c) × IsTrue (uses c name)

-- all that stand, by order of their names
abbrev pub all_in : CompiledTemplates → List Compiled
all_in templates = values templates.by_name
