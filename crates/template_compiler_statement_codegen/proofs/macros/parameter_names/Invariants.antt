-- The names so far.
use Rattle.std.proofs.Common.{◌≡◌, take}
use Rattle.template_compiler_tree.specs.View.{expressions_in}
use Rattle.template_compiler_walk.specs.Statements.{name_texts}
use Rattle.template_compiler_statement_codegen.proofs.macros.parameter_names.Given as goal

abbrev pub invariant-loop-argument : goal.invariant-loop-argument
invariant-loop-argument l = l.names.items ≡ name_texts (expressions_in (take l.argument-index l.arguments))
