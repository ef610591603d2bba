use Rattle.std.proofs.Common.{sym, ap, ◌∙◌}
use Rattle.template_compiler_tokens.specs.Steps.{all}
use Rattle.template_compiler_grammar.specs.TemplateReader.{here, statement_step, statements_at, statements_by}
use Rattle.template_compiler_statement_makers.specs.Listed.{statement_nodes_in}
use Rattle.template_compiler_statement_makers.specs.Surroundings.{around_of}
use Rattle.template_compiler_statement_parser.proofs.statements.read_statements.Goals as goal

pub returns-clause-parsed : goal.returns-clause-parsed
unfolding statements_at statements_by
returns-clause-parsed g c =
    let spans = c.args.tokens.now.spans in
    ap (λ ss. all (statement_step spans (here spans c.args.left) (around_of c.args.around)) (statement_nodes_in ss) c.args.tokens.now.left)
    (sym c.new-statements.ensures.items) ∙ c.in_ok-put_statements.ensures.parsed
