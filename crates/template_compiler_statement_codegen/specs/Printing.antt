-- What a print writes, as contracts see it.
use Rattle.std.specs.Prelude.{ℕ, ◌&&◌, if◌then◌else◌, List}
use Rattle.template_compiler_tree.specs.Kinds.{is_empty}
use Rattle.template_compiler_tree.specs.Tree.{Arguments}
use Rattle.template_compiler_tree.specs.View.{expression_of}
use Rattle.template_compiler_walk.specs.Statements.{Printed, prints_value, prints_block, prints_super, prints_rounds, is_super_name, is_loop_name, printed_rounds}
use Rattle.template_compiler_statement_codegen.specs.declared.prints.Printing.{Printing}
use Rattle.template_compiler_statement_codegen.specs.declared.prints.Printing.TheVariants.{Value, Block, Super, Rounds}

abbrev pub printed_as : Printing → Printed
printed_as Value = prints_value
printed_as (Block name) = prints_block name.now
printed_as Super = prints_super
printed_as (Rounds value) = prints_rounds (expression_of value.now)

-- what a call of a name prints
abbrev pub printed_named : List ℕ → Arguments → Printed
printed_named name args =
    if is_super_name name && is_empty args then prints_super else if is_loop_name name then printed_rounds args else prints_value
