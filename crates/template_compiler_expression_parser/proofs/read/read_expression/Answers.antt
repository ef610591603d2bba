use Rattle.template_compiler_grammar.specs.Reader.{expression_at}
use Rattle.template_compiler_expression_parser.proofs.Trees.{expression_tree}
use Rattle.template_compiler_expression_parser.proofs.read.read_expression.Goals as goal

pub returns-clause-tree : goal.returns-clause-tree
unfolding expression_at
returns-clause-tree c =
    expression_tree c.args.tokens.now.spans c.args.left c.args.tokens.now.left c.expression.new.tokens.left c.expression.result c.expression.ensures.parsed
