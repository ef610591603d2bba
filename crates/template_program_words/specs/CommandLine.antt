-- The command line, in the words in which `clap` describes one: `names [--builtins] [--main NAME] [-o FILE] [--where] [--json]
-- [--templates FOLDER] [SYNTAX] [FILE...]`, `check [--builtins] [--templates FOLDER] [SYNTAX] [FILE...]`
-- and `render [--context FILE] [-D NAME=TEXT]... [--fuel N] [--limit N] [--undefined MODE] [--builtins] [--main NAME] [-o FILE]
-- [--where] [--templates FOLDER] [--data FILE]... [--json NAME=JSON]... [--floats FORM] [--autoescape FORMAT]
-- [--expression TEXT] [--as-json] [SYNTAX] [FILE...]`.
use Rattle.std.specs.Prelude.{ℕ, List, [], ◌∷◌, Some, codes, map, pos, true}
use Rattle.clap.specs.Lexer.{usize_max}
use Rattle.clap.specs.Words.{App, Rule, new_app, new_rule, with_rule, with_subcommand}
use Rattle.clap.specs.declared.builder.action.ArgAction.TheVariants.{Append, SetTrue}
use Rattle.clap.specs.declared.builder.value_parser.ValueParser.TheVariants.{Signed, Unsigned}

-- an argument with a value
abbrev pub taking_value : List ℕ → Rule
taking_value id = record (new_rule id) { value_names = 1 }

-- `--NAME TEXT`, once at most
abbrev pub text_option : List ℕ → Rule
text_option name = record (new_rule name) { long = Some name; value_names = 1 }

-- `--NAME TEXT`, any number of times
abbrev pub texts_option : List ℕ → Rule
texts_option name = record (text_option name) { action = Some Append }

-- `--NAME`, once at most, without a value
abbrev pub flag_option : List ℕ → Rule
flag_option name = record (new_rule name) { long = Some name; action = Some SetTrue }

-- `--context FILE`, once at most
abbrev pub context_option : Rule
context_option = text_option (codes "context")

-- `-D NAME=TEXT`, any number of times
abbrev pub definition_option : Rule
definition_option =
    record (new_rule (codes "definition")) { short = Some 68; value_names = 1; action = Some Append }

-- `--fuel N`, once at most, of 64 bits
abbrev pub fuel_option : Rule
fuel_option = record (new_rule (codes "fuel")) {
  long = Some (codes "fuel");
  value_names = 1;
  parser = Some (Unsigned 0 18446744073709551615);
}

-- `--limit N`, once at most, of 16 bits
abbrev pub limit_option : Rule
limit_option = record (new_rule (codes "limit")) {
  long = Some (codes "limit");
  value_names = 1;
  parser = Some (Signed (pos 0) (pos 65535));
}

-- `--undefined MODE`, once at most
abbrev pub undefined_option : Rule
undefined_option = text_option (codes "undefined")

-- `--builtins`, once at most, without a value
abbrev pub builtins_option : Rule
builtins_option = flag_option (codes "builtins")

-- `--main NAME`, once at most
abbrev pub main_option : Rule
main_option = text_option (codes "main")

-- `--json` of `names`, once at most, without a value
abbrev pub names_json_option : Rule
names_json_option = flag_option (codes "json")

-- `--data FILE`, any number of times
abbrev pub data_option : Rule
data_option = texts_option (codes "data")

-- `--json NAME=JSON`, any number of times
abbrev pub json_option : Rule
json_option = texts_option (codes "json")

-- `--floats FORM`, once at most
abbrev pub floats_option : Rule
floats_option = text_option (codes "floats")

-- `--expression TEXT`, once at most
abbrev pub expression_option : Rule
expression_option = text_option (codes "expression")

-- `--as-json`, once at most, without a value
abbrev pub as_json_option : Rule
as_json_option = flag_option (codes "as-json")

-- `--autoescape FORMAT`, once at most
abbrev pub autoescape_option : Rule
autoescape_option = text_option (codes "autoescape")

-- the flags of the syntax
abbrev pub syntax_flags : List Rule
syntax_flags = map flag_option (codes "trim-blocks" ∷ codes "lstrip-blocks" ∷ codes "keep-trailing-newline"
    ∷ codes "scoped-blocks" ∷ [])

-- the prefixes and the delimiters of the syntax
abbrev pub syntax_texts : List Rule
syntax_texts = map text_option (codes "line-statement" ∷ codes "line-comment" ∷ codes "block-start" ∷ codes "block-end"
    ∷ codes "variable-start" ∷ codes "variable-end" ∷ codes "comment-start" ∷ codes "comment-end" ∷ [])

-- `--output FILE` or `-o FILE`, once at most
abbrev pub output_option : Rule
output_option = record (text_option (codes "output")) { short = Some 111 }

-- `--templates FOLDER`, once at most
abbrev pub templates_option : Rule
templates_option = text_option (codes "templates")

-- `--where`, once at most, without a value
abbrev pub where_option : Rule
where_option = flag_option (codes "where")

-- `FILE...`, none or more
abbrev pub files_argument : Rule
files_argument = record (new_rule (codes "files")) {
  value_names = 1;
  range = Some (record { start_inclusive = 0; end_inclusive = usize_max });
  action = Some Append;
}

-- an app that takes these arguments too, in this order
abbrev pub with_rules : App → List Rule → App
with_rules app [] = app
with_rules app (rule ∷ rules) = with_rules (with_rule app rule) rules

abbrev pub render_rules : List Rule
render_rules = context_option ∷ definition_option ∷ fuel_option ∷ limit_option ∷ undefined_option ∷ builtins_option
    ∷ main_option ∷ output_option ∷ where_option ∷ templates_option ∷ files_argument ∷ []

-- the words on values
abbrev pub value_rules : List Rule
value_rules = data_option ∷ json_option ∷ floats_option ∷ autoescape_option ∷ expression_option ∷ as_json_option ∷ []

abbrev pub names_rules : List Rule
names_rules =
    builtins_option ∷ main_option ∷ output_option ∷ where_option ∷ names_json_option ∷ templates_option ∷ files_argument ∷ []

abbrev pub check_rules : List Rule
check_rules = builtins_option ∷ templates_option ∷ files_argument ∷ []

-- an app that takes the words of the syntax too
abbrev pub with_syntax : App → App
with_syntax app = with_rules (with_rules app syntax_flags) syntax_texts

abbrev pub render_command : App
render_command = with_syntax (with_rules (with_rules (new_app (codes "render")) render_rules) value_rules)

abbrev pub names_command : App
names_command = with_syntax (with_rules (new_app (codes "names")) names_rules)

abbrev pub check_command : App
check_command = with_syntax (with_rules (new_app (codes "check")) check_rules)

-- the program's own name is not among the words, one of the commands has to be, and the version is told
abbrev pub bare_program : App
bare_program = record (new_app (codes "template")) {
  top = record ((new_app (codes "template")).top) { no_binary_name = true; subcommand_required = true; has_version = true };
}

abbrev pub program : App
program = with_subcommand (with_subcommand (with_subcommand bare_program render_command.top) names_command.top) check_command.top
