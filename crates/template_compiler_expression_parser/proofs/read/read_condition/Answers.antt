use Rattle.template_compiler_grammar.specs.Reader.{condition_at}
use Rattle.template_compiler_expression_parser.proofs.Trees.{condition_tree}
use Rattle.template_compiler_expression_parser.proofs.read.read_condition.Goals as goal

pub returns-clause-tree : goal.returns-clause-tree
unfolding condition_at
returns-clause-tree c =
    condition_tree c.args.tokens.now.spans c.args.left c.args.tokens.now.left c.binary.new.tokens.left c.binary.result c.binary.ensures.parsed
