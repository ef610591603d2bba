use Rattle.template_compiler_grammar.specs.Views.{optional_node_in}
use Rattle.template_compiler_expression_parser.proofs.Trees.{chain_tree}
use Rattle.template_compiler_expression_parser.proofs.read.read_filter_chain.Goals as goal

pub returns-clause-tree : goal.returns-clause-tree
returns-clause-tree c =
    chain_tree c.args.tokens.now.spans c.args.left (optional_node_in c.args.value) c.args.tokens.now.left c.chain.new.tokens.left c.chain.result c.chain.ensures.parsed
