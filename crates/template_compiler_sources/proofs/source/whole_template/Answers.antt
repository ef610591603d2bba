use Rattle.std.proofs.Common.{rules, []}
use Rattle.template_compiler_tree.specs.NodePlaces.{at}
use Rattle.template_compiler_grammar.specs.Nodes.{placed}
use Rattle.template_compiler_grammar.specs.TreeStatements.{places_of_statements}
use Rattle.template_compiler_tree_statements.specs.declared.statements.Stmt.{the_lemmas}
use Rattle.template_compiler_statement_makers.specs.Listed.{statements_in}
use Rattle.template_compiler_statement_makers.proofs.Rows.{nodes_row}
use Rattle.template_compiler_tokens.specs.Places.{stretch}
use Rattle.template_compiler_sources.proofs.source.whole_template.Goals as goal

pub returns : goal.returns
returns c =
    let items = c.in_ok-children.children.items in
    let span = stretch c.args.tokens.now.spans c.args.tokens.now.left [] in
    (placed (statements_in items) (at span (places_of_statements items)), search (rules, the_lemmas, nodes_row), c.in_ok-children.ensures.parsed)
