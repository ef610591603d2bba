use Rattle.std.proofs.Common.{false}
use Rattle.template_compiler_tree_parts.specs.Listed.{statements_in}
use Rattle.template_compiler_statement_codegen.proofs.Wholes.{looser_statements, puts_whole_body}
use Rattle.template_compiler_statement_codegen.proofs.statements.compile_statements.Goals as goal

pub compile_body-requires : goal.compile_body-requires
compile_body-requires c = looser_statements false (statements_in c.args.body.now) c.requires

pub returns-in-Ok-clause-put : goal.returns-in-Ok-clause-put
returns-in-Ok-clause-put c =
    puts_whole_body (statements_in c.args.body.now) c.new-round.result c.compile_body.new.round
    c.new-round.ensures.asks c.new-round.ensures.closings c.in-Ok.ensures.lowered
