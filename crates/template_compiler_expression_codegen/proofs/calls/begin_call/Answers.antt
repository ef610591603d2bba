use Rattle.std.proofs.Common.{ℕ, List, sym, subst}
use Rattle.std.specs.Prelude.{IfOk}
use Rattle.std.proofs.lemmas.Result.{on_ok_weaker}
use Rattle.template_compiler_tree.specs.View.{arguments_in}
use Rattle.template_compiler_tree.specs.declared.calls.CallArg.{CallArg}
use Rattle.template_compiler_walk.specs.Runnable.{AreRunnableArguments}
use Rattle.template_compiler_emission.specs.Puts.{Puts}
use Rattle.template_compiler_emission.proofs.Putting.{puts_then}
use Rattle.template_compiler_expression_codegen.specs.Begun.{ArgumentsBegin, arguments_begun}
use Rattle.template_compiler_expression_codegen.proofs.calls.begin_call.Goals as goal

pub put_front-requires : goal.put_front-requires
put_front-requires c = c.requires.0

pub begin_arguments-requires : goal.begin_arguments-requires
begin_arguments-requires c = subst (λ (xs : List CallArg). AreRunnableArguments (arguments_in xs)) (sym c.deref.ensures.value) c.requires.1

pub returns-clause-begun : goal.returns-clause-begun
returns-clause-begun c =
    let front = c.in_ok-front.front in
    let read = subst (λ (xs : List CallArg). IfOk c.begin_arguments.result (ArgumentsBegin front (arguments_in xs))) c.deref.ensures.value c.begin_arguments.ensures.begun in
    subst (λ (n : ℕ). IfOk c.begin_arguments.result (ArgumentsBegin n (arguments_in c.args.call.now.args.items))) c.in_ok-front.ensures.count read

pub returns-clause-put : goal.returns-clause-put
returns-clause-put c =
    let front = c.in_ok-front.front in
    let last = c.args.last.now in
    let old = c.put_front.new.code in
    let new = c.begin_arguments.new.code in
    on_ok_weaker c.begin_arguments.result (λ put.
    puts_then c.in_ok-front.ensures.put
    (subst (λ (n : ℕ). Puts (arguments_begun n (arguments_in c.args.call.now.args.items) last) old new) c.in_ok-front.ensures.count
    (subst (λ (xs : List CallArg). Puts (arguments_begun front (arguments_in xs) last) old new) c.deref.ensures.value put))) c.begin_arguments.ensures.put
