-- What statements are.
use Rattle.std.specs.Prelude.{Bool, true, false}
use Rattle.template_compiler_tree.specs.Tree.{Statement, template, for_loop, block, from_import, macro, call_block}

abbrev pub is_template : Statement → Bool
is_template (template _) = true
is_template _ = false

abbrev pub is_loop : Statement → Bool
is_loop (for_loop _ _ _ _ _ _) = true
is_loop _ = false

abbrev pub is_block : Statement → Bool
is_block (block _ _ _) = true
is_block _ = false

abbrev pub is_import : Statement → Bool
is_import (from_import _ _) = true
is_import _ = false

abbrev pub is_macro : Statement → Bool
is_macro (macro _ _ _ _) = true
is_macro _ = false

abbrev pub is_call_block : Statement → Bool
is_call_block (call_block _ _ _ _ _) = true
is_call_block _ = false
