use Rattle.std.proofs.Common.{rules, ◌≡◌, false, sym, ◌∙◌}
use Rattle.template_compiler_sources.specs.Waiting.{texts_in}
use Rattle.template_compiler_statement_makers.specs.Listed.{statement_nodes_in, statements_in}
use Rattle.template_compiler_grammar.specs.TemplateTrees.{are_distinct, blocks_among}
use Rattle.template_compiler_sources.proofs.Sources.{whole_twice}
use Rattle.template_compiler_sources.proofs.template.read_template.Goals as goal

pub returns-clause-parsed : goal.returns-clause-parsed
returns-clause-parsed c =
    let names : texts_in c.in_ok-names.names.items ≡ blocks_among (statements_in c.in_ok-body.body.items) = search rules in
    let twice : are_distinct (texts_in c.in_ok-names.names.items) ≡ false = search rules in
    whole_twice c.args.tokens.now.spans c.args.tokens.now.left _ (statement_nodes_in c.in_ok-body.body.items) (texts_in c.in_ok-names.names.items) _
    c.in_ok-body.ensures.parsed
    c.nothing.ensures (sym c.is_done.ensures ∙ c.if-not-is_done.false) names twice
