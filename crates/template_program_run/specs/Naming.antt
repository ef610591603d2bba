-- How the words name templates.
use Rattle.std.specs.Prelude.{ℕ, ◌&&◌, ◌||◌, not, Bool, true, false, List, [], ◌∷◌, Option, None, is_none, is_some, map, option_map, unwrap_or}
use Rattle.template_program_words.specs.declared.words.Words.{Words}
use Rattle.template_program_words.specs.declared.words.Words.TheVariants as asks
use Rattle.template_program_run.specs.Origins.{hold_input, origins_of}
use Rattle.template_program_run.specs.Templates.{first_name, template_names}
use Rattle.template_program_run.specs.declared.naming.Naming.{Naming as NamingWords}

-- the folder that they are in, the name of the main one, and the paths; and whether the input is no template: it is read for the
-- context, or an expression is wanted in place of a template, or a folder is checked
pub record Naming : Type 0 where
  pub folder : Option (List ℕ)
  pub main : Option (List ℕ)
  pub paths : List (List ℕ)
  pub input_is_taken : Bool

abbrev pub naming_in : NamingWords → Naming
naming_in words = record {
  folder = option_map (λ path. path.now) words.folder;
  main = option_map (λ name. name.now) words.main;
  paths = map (λ path. path.now) words.paths.now;
  input_is_taken = words.input_is_taken;
}

-- as the words say it
abbrev pub naming_of : Words → Naming
naming_of (asks.Render read) = record {
  folder = option_map (λ path. path.now) read.templates;
  main = option_map (λ name. name.now) read.main;
  paths = map (λ path. path.now) read.files.items;
  input_is_taken = hold_input (origins_of (asks.Render read)) || is_some read.expression;
}
naming_of (asks.Names read) = record {
  folder = option_map (λ path. path.now) read.templates;
  main = option_map (λ name. name.now) read.main;
  paths = map (λ path. path.now) read.files.items;
  input_is_taken = false;
}
naming_of (asks.Check read) = record {
  folder = option_map (λ path. path.now) read.templates;
  main = None;
  paths = map (λ path. path.now) read.files.items;
  input_is_taken = is_some read.templates;
}

-- whether no path is given
abbrev pub lack_paths : List (List ℕ) → Bool
lack_paths [] = true
lack_paths (path ∷ paths) = false

-- the input is read as a template where no path is given, unless it is none
abbrev pub reads_input : Naming → Bool
reads_input naming = not naming.input_is_taken && lack_paths naming.paths

-- beside a folder's templates it is only where no main template is named
abbrev pub reads_input_beside : Naming → Bool
reads_input_beside naming = is_none naming.main && reads_input naming

-- the name of the main template: the one named, else the first
abbrev pub main_of : Naming → List ℕ
main_of naming = unwrap_or naming.main (first_name (template_names naming.paths))
