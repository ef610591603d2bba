-- The statements that words begin, by whether they have a body.
use Rattle.template_compiler_grammar.specs.TemplateReaderParts as reader
use Rattle.template_compiler_statement_parser.specs.declared.kinds.Leaf.{Leaf}
use Rattle.template_compiler_statement_parser.specs.declared.kinds.Leaf.TheVariants as leaves
use Rattle.template_compiler_statement_parser.specs.declared.kinds.Parent.{Parent}
use Rattle.template_compiler_statement_parser.specs.declared.kinds.Parent.TheVariants as parents
use Rattle.template_compiler_statement_parser.specs.declared.kinds.Kind.{Kind}
use Rattle.template_compiler_statement_parser.specs.declared.kinds.Kind.TheVariants as kinds

abbrev pub leaf_opening : Leaf → reader.Opening
leaf_opening leaves.Import = reader.import_tag
leaf_opening leaves.From = reader.from_tag
leaf_opening leaves.Extends = reader.extends_tag
leaf_opening leaves.Include = reader.include_tag
leaf_opening leaves.Do = reader.do_tag
leaf_opening leaves.Break = reader.break_tag
leaf_opening leaves.Continue = reader.continue_tag

abbrev pub parent_opening : Parent → reader.Opening
parent_opening parents.With = reader.with_tag
parent_opening parents.Set = reader.set_tag
parent_opening parents.AutoEscape = reader.autoescape_tag
parent_opening parents.Filter = reader.filter_tag
parent_opening parents.Block = reader.block_tag
parent_opening parents.Macro = reader.macro_tag
parent_opening parents.Call = reader.call_tag

abbrev pub kind_opening : Kind → reader.Opening
kind_opening kinds.Loop = reader.for_tag
kind_opening kinds.Condition = reader.if_tag
kind_opening (kinds.Leaf leaf) = leaf_opening leaf
kind_opening (kinds.Parent parent) = parent_opening parent
