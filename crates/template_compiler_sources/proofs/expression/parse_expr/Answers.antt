use Rattle.template_compiler_tree.specs.View.{expression_of}
use Rattle.template_compiler_grammar.specs.Views.{node_of}
use Rattle.template_compiler_sources.proofs.Sources.{found_alone, found_expression, refused_alone}
use Rattle.template_compiler_sources.proofs.expression.parse_expr.Goals as goal

pub returns-in-Ok-whole_expression-clause-found : goal.returns-in-Ok-whole_expression-clause-found
returns-in-Ok-whole_expression-clause-found c =
    found_expression c.args.source.now c.in-Ok.tokens.left (expression_of c.in-Ok-whole_expression.tree) c.in-Ok.ensures.tokens.tokens c.in-Ok-whole_expression.ensures.tree

pub returns-in-Ok-whole_expression-clause-places : goal.returns-in-Ok-whole_expression-clause-places
returns-in-Ok-whole_expression-clause-places c =
    found_alone c.args.source.now c.in-Ok.tokens (node_of c.in-Ok-whole_expression.tree) c.in-Ok.ensures.tokens c.in-Ok-whole_expression.ensures.placed

pub returns-in-Ok-clause-refused : goal.returns-in-Ok-clause-refused
returns-in-Ok-clause-refused c =
    refused_alone c.args.source.now c.in-Ok.tokens.left c.in-Err-whole_expression.refusal c.refused_at.result c.in-Ok.ensures.tokens.tokens
    c.in-Err-whole_expression.ensures.tree c.refused_at.ensures
