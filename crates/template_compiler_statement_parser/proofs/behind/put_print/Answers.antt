use Rattle.std.proofs.Common.{rules}
use Rattle.template_compiler_grammar.specs.TemplateReader.{here, print_by}
use Rattle.template_compiler_statement_makers.specs.Listed.{statement_nodes_in}
use Rattle.template_compiler_statement_parts.specs.Parsed.{RefusedStep}
use Rattle.template_compiler_statement_parser.specs.Bodies.{put_behind}
use Rattle.template_compiler_statement_parser.proofs.Put.{put_fails, put_statement}
use Rattle.template_compiler_statement_parser.proofs.behind.put_print.Goals as goal

pub returns-clause-parsed : goal.returns-clause-parsed
returns-clause-parsed g c =
    let spans = c.args.tokens.now.spans in
    put_statement (print_by spans (here spans c.args.left) c.args.span c.args.tokens.now.left) c.args.statements.now.items _ _ _ _
    c.in_ok-print.ensures.parsed c.put.ensures.put c.put.ensures.refused

pub returns-in_err-print-clause-parsed : goal.returns-in_err-print-clause-parsed
returns-in_err-print-clause-parsed g c =
    let spans = c.args.tokens.now.spans in
    let read = print_by spans (here spans c.args.left) c.args.span c.args.tokens.now.left in
    let ss = statement_nodes_in c.args.statements.now.items in
    let refused : RefusedStep (put_behind read ss) c.in_err-print.field-0.0 = put_fails read ss _ c.in_err-print.ensures.parsed in
    search rules
