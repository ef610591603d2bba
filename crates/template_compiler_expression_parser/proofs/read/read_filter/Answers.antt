use Rattle.template_compiler_grammar.specs.Reader.{filter_at}
use Rattle.template_compiler_grammar.specs.Views.{optional_node_in}
use Rattle.template_compiler_expression_parser.proofs.Trees.{filter_tree}
use Rattle.template_compiler_expression_parser.proofs.read.read_filter.Goals as goal

pub returns-clause-tree : goal.returns-clause-tree
unfolding filter_at
returns-clause-tree c =
    filter_tree c.args.tokens.now.spans c.args.left (optional_node_in c.args.value) c.args.tokens.now.left c.filter.new.tokens.left c.filter.result (rw c.span-span.ensures at c.filter.ensures.parsed)
