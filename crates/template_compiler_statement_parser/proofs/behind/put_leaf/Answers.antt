use Rattle.std.proofs.Common.{rules}
use Rattle.template_compiler_grammar.specs.TemplateReader.{here, opened_by}
use Rattle.template_compiler_statement_makers.specs.Listed.{statement_nodes_in}
use Rattle.template_compiler_statement_makers.specs.Surroundings.{around_of}
use Rattle.template_compiler_statement_parts.specs.Parsed.{RefusedStep}
use Rattle.template_compiler_statement_parser.specs.Bodies.{put_behind}
use Rattle.template_compiler_statement_parser.specs.Kinds.{leaf_opening}
use Rattle.template_compiler_statement_parser.proofs.Put.{put_fails, put_statement}
use Rattle.template_compiler_statement_parser.proofs.behind.put_leaf.Goals as goal

pub returns-clause-parsed : goal.returns-clause-parsed
returns-clause-parsed g c =
    let spans = c.args.tokens.now.spans in
    put_statement (opened_by spans (here spans c.args.left) (around_of c.args.around) (leaf_opening c.args.leaf) c.args.span c.args.tokens.now.left)
    c.args.statements.now.items _ _ _ _ c.in_ok-statement.ensures.parsed c.put.ensures.put c.put.ensures.refused

pub returns-in_err-statement-clause-parsed : goal.returns-in_err-statement-clause-parsed
returns-in_err-statement-clause-parsed g c =
    let spans = c.args.tokens.now.spans in
    let read = opened_by spans (here spans c.args.left) (around_of c.args.around) (leaf_opening c.args.leaf) c.args.span c.args.tokens.now.left in
    let ss = statement_nodes_in c.args.statements.now.items in
    let refused : RefusedStep (put_behind read ss) c.in_err-statement.field-0.0 = put_fails read ss _ c.in_err-statement.ensures.parsed in
    search rules
