-- The names that templates need.
use Rattle.std.specs.Prelude.{ℕ, Bool, List}
use Rattle.template_machine_meaning.specs.Isolation.{is_needed}
use Rattle.template_compiled.specs.Compiled.{Compiled}
use Rattle.template_compiled.specs.Sources.{tree_in}

-- the template needs the name: it uses it, one of its blocks does by itself, or it imports it
abbrev pub uses : Compiled → List ℕ → Bool
uses c name = is_needed name (tree_in c.source)
