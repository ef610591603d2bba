use Rattle.std.proofs.Common.{◌<◌, length, arith}
use Rattle.template_compiler_statement_codegen.proofs.Importing.{name_at, puts_name, puts_names}
use Rattle.template_compiler_statement_codegen.proofs.imports.look_up_names.Goals as goal

pub compile_expr-requires : goal.compile_expr-requires
compile_expr-requires c =
    let ns = c.args.names.now in
    let within : c.loop-name.name-index < length ns = omega arith in
    (name_at ns c.loop-name.name-index c.name-item.result c.requires within c.name-item.is).0

pub loop-name-preserved : goal.loop-name-preserved
loop-name-preserved c =
    let ns = c.args.names.now in
    let within : c.loop-name.name-index < length ns = omega arith in
    puts_name ns c.loop-name.name-index c.name-item.result within c.name-item.is c.loop-name.invariant c.in_ok-compile_expr.ensures.put

pub returns-clause-put : goal.returns-clause-put
returns-clause-put c = puts_names c.args.names.now c.loop-name.name-index (omega arith) c.loop-name.invariant
