use Rattle.std.proofs.Common.{ℕ, ap, subst}
use Rattle.template_compiler_codegen.specs.Expressions.{Coded}
use Rattle.template_compiler_emission.specs.Puts.{Puts}
use Rattle.template_compiler_expression_codegen.proofs.Begun.{value_front}
use Rattle.template_compiler_expression_codegen.proofs.calls.put_front.Goals as goal

pub returns-in_ok-compile_expr-in_default : goal.returns-in_ok-compile_expr-in_default
returns-in_ok-compile_expr-in_default c =
    let is = value_front c.args.callee.now c.in_default.not-Var c.in_default.not-GetAttr in
    record {
      count = ap (λ (x : Coded × ℕ). x.1) is;
      put = subst (λ (x : Coded × ℕ). Puts x.0 c.args.code.now c.compile_expr-in_default.new.code) is c.in_ok-compile_expr-in_default.ensures.put;
      refused = tt;
    }
