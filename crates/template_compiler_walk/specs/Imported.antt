-- The names that a template imports from others.
use Rattle.std.specs.Prelude.{ℕ, Bool, false, ◌||◌, List}
use Rattle.std.specs.Str.{bytes_eq}
use Rattle.template_compiler_tree.specs.Tree.{Expression, Statement, Statements, Imports, variable, for_loop, if_condition, with_block, set_block, auto_escape, filter_block, block, from_import, macro, call_block, no_statements, statements_more, no_imports, imports_more}

abbrev pub is_name : List ℕ → Expression → Bool
is_name name (variable other) = bytes_eq other name
is_name name _ = false

abbrev pub is_one_of : List ℕ → Imports → Bool
is_one_of name no_imports = false
is_one_of name (imports_more e alias more) = is_name name e || is_one_of name more

abbrev mutual
  pub is_imported_by : List ℕ → Statement → Bool
  is_imported_by name (for_loop _ _ _ _ body otherwise) = is_imported name body || is_imported name otherwise
  is_imported_by name (if_condition _ body otherwise) = is_imported name body || is_imported name otherwise
  is_imported_by name (with_block _ body) = is_imported name body
  is_imported_by name (set_block _ _ body) = is_imported name body
  is_imported_by name (auto_escape _ body) = is_imported name body
  is_imported_by name (filter_block _ body) = is_imported name body
  is_imported_by name (block _ _ body) = is_imported name body
  is_imported_by name (from_import _ names) = is_one_of name names
  is_imported_by name (macro _ _ _ body) = is_imported name body
  is_imported_by name (call_block _ _ _ _ body) = is_imported name body
  is_imported_by name _ = false

  pub is_imported : List ℕ → Statements → Bool
  is_imported name no_statements = false
  is_imported name (statements_more s ss) = is_imported_by name s || is_imported name ss
