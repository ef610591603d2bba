use Rattle.std.proofs.Common.{List, ◌++◌, length, ap, ◌∙◌}
use Rattle.template_compiler_tree.specs.View.{expression_of}
use Rattle.template_compiler_code.specs.Code.{Code}
use Rattle.template_compiler_codegen.specs.Expressions.{expression_code}
use Rattle.template_compiler_generator.specs.Numbers.{numbered_in}
use Rattle.template_compiled.proofs.Alone.{kept_alone, source_runs}
use Rattle.template_compiled.proofs.expression.CompiledExpression.new.Goals as goal

pub put_expr-requires : goal.put_expr-requires
put_expr-requires c = source_runs c.in_ok-tree.ensures.found

pub invariant_of-result : goal.invariant_of-result
invariant_of-result c =
    let e = expression_of c.in_ok-tree.tree in
    let put = c.in_ok-put_expr.ensures.put in
    let shrunk = c.shrink_to_fit.ensures in
    kept_alone c.args.source.now _ _ e (shrunk.same.source ∙ c.number_names.ensures.same.source ∙ put.same.source ∙ c.new-instructions.ensures.source) c.in_ok-tree.ensures.too_large
    c.in_ok-tree.ensures.found
    (shrunk.code ∙ c.in_ok-number_names.ensures.numbered
    ∙ ap numbered_in (put.code ∙ ap (λ (l : List Code). l ++ expression_code e (length l)) c.new-instructions.ensures.empty))

pub returns-clause-faithful : goal.returns-clause-faithful
returns-clause-faithful c =
    let e = expression_of c.in_ok-tree.tree in
    let put = c.in_ok-put_expr.ensures.put in
    let shrunk = c.shrink_to_fit.ensures in
    (kept_alone c.args.source.now _ _ e (shrunk.same.source ∙ c.number_names.ensures.same.source ∙ put.same.source ∙ c.new-instructions.ensures.source) c.in_ok-tree.ensures.too_large
    c.in_ok-tree.ensures.found
    (shrunk.code ∙ c.in_ok-number_names.ensures.numbered
    ∙ ap numbered_in (put.code ∙ ap (λ (l : List Code). l ++ expression_code e (length l)) c.new-instructions.ensures.empty))).0
