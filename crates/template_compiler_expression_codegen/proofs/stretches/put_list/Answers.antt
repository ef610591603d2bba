use Rattle.std.proofs.Common.{ℕ, ◌≡◌, subst}
use Rattle.std.specs.Prelude.{IfOk}
use Rattle.template_compiler_expression_codegen.proofs.Arguments.{always_ok, one_is_counted, puts_list}
use Rattle.template_compiler_expression_codegen.proofs.stretches.put_list.Goals as goal

pub returns-clause-counted : goal.returns-clause-counted
returns-clause-counted c =
    subst (λ (k : ℕ). IfOk c.one_more.result (λ n. n ≡ k)) (one_is_counted c.args.lists c.args.values c.if-values-eq0.false) c.one_more.ensures.counted

pub returns-clause-put : goal.returns-clause-put
returns-clause-put c = always_ok c.one_more.result (puts_list c.args.values c.if-values-eq0.false c.in_ok-push.ensures.put)
