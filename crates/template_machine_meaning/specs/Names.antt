-- The name of the template whose stream runs.
use Rattle.std.specs.Prelude.{ℕ, List}
use Rattle.template_machine_meaning.specs.Keys.{Home, rendered, standing, kept, Stream, home_of, Around}

abbrev pub name_at : Around → Home → List ℕ
name_at a rendered = a.name
name_at a (standing name) = name
name_at a (kept number) = a.name

abbrev pub name_of : Around → Stream → List ℕ
name_of a s = name_at a (home_of s)
