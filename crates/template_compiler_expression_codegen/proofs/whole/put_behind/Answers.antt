use Rattle.std.proofs.Common.{None, refl}
use Rattle.std.proofs.lemmas.Result.{on_ok_weaker}
use Rattle.template_compiler_expression_codegen.specs.Calls.{call_of}
use Rattle.template_compiler_tree.specs.View.{expression_of}
use Rattle.template_compiler_expression_codegen.proofs.Along.{part_put}
use Rattle.template_compiler_expression_codegen.proofs.whole.put_behind.Goals as goal

pub returns-clause-put : goal.returns-clause-put
returns-clause-put c =
    on_ok_weaker c.compile_call.result (λ both. both.1)
    (part_put (call_of c.args.call.now) (expression_of c.args.part.now) c.in_ok-left.left None c.args.code.now c.fold_expr.new.code
    c.compile_call.new.code c.compile_call.result c.requires.runs c.requires.left c.in_ok-left.ensures.constant c.in_ok-left.ensures.put
    (on_ok_weaker c.compile_call.result (λ taken. refl) c.compile_call.ensures.taken) c.compile_call.ensures.put)
