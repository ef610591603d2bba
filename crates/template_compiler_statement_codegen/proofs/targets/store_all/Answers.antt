use Rattle.std.proofs.Common.{◌<◌, length, arith}
use Rattle.template_compiler_statement_codegen.proofs.Assignments.{assignment_at, puts_assignment, puts_assignments}
use Rattle.template_compiler_statement_codegen.proofs.targets.store_all.Goals as goal

pub compile_expr-requires : goal.compile_expr-requires
compile_expr-requires c =
    let ps = c.args.assignments.now in
    let within : c.loop-target.target-index < length ps = omega arith in
    (assignment_at ps c.loop-target.target-index c.loop-target-item.result c.requires within c.loop-target-item.is).1

pub store-requires : goal.store-requires
store-requires c =
    let ps = c.args.assignments.now in
    let within : c.loop-target.target-index < length ps = omega arith in
    (assignment_at ps c.loop-target.target-index c.loop-target-item.result c.requires within c.loop-target-item.is).0

pub loop-target-preserved : goal.loop-target-preserved
loop-target-preserved c =
    let ps = c.args.assignments.now in
    let within : c.loop-target.target-index < length ps = omega arith in
    puts_assignment ps c.loop-target.target-index c.loop-target-item.result within c.loop-target-item.is c.loop-target.invariant
    c.in_ok-compile_expr.ensures.put c.in_ok-store.ensures.put

pub returns-clause-put : goal.returns-clause-put
returns-clause-put c = puts_assignments c.args.assignments.now c.loop-target.target-index (omega arith) c.loop-target.invariant
