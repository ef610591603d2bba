use Rattle.std.proofs.Common.{◌≡◌, ◌<◌, List, [], ◌∷◌, ◌++◌, length, take, ap, sym, ◌∙◌, refl, arith}
use Rattle.std.proofs.lemmas.List.{take_more, take_all}
use Rattle.template_values_model.specs.Val.{Val, list, vals_of}
use Rattle.template_compiler_tree.specs.View.{expression_of, expressions_in}
use Rattle.template_compiler_tree.specs.declared.expressions.Expr.{Expr}
use Rattle.template_compiler_walk.specs.Statements.{name_text, name_texts}
use Rattle.template_compiler_statement_codegen.proofs.macros.parameter_names.Goals as goal

texts_push : (es : List Expr) (e : Expr) → name_texts (expressions_in (es ++ e ∷ [])) ≡ name_texts (expressions_in es) ++ name_text (expression_of e) ∷ []
texts_push [] e = refl
texts_push (x ∷ es) e = ap (λ (vs : List Val). name_text (expression_of x) ∷ vs) (texts_push es e)

pub loop-argument-preserved : goal.loop-argument-preserved
loop-argument-preserved c =
    let es = c.args.arguments.now in
    let i = c.loop-argument.argument-index in
    let e = c.argument-item.result in
    let within : i < length es = omega arith in
    c.in_ok-append.ensures.pushed ∙
    ap (λ (vs : List Val). vs ++ c.in_ok-name_text.field-0 ∷ []) c.loop-argument.invariant ∙
    ap (λ (v : Val). name_texts (expressions_in (take i es)) ++ v ∷ []) c.in_ok-name_text.ensures.made ∙
    sym (texts_push (take i es) e) ∙
    ap (λ (x : Expr). name_texts (expressions_in (take i es ++ x ∷ []))) c.argument-item.is ∙
    ap (λ (l : List Expr). name_texts (expressions_in l)) (sym (take_more es i e within))

pub returns-in-Ok-clause-made : goal.returns-in-Ok-clause-made
returns-in-Ok-clause-made c =
    let es = c.args.arguments.now in
    c.in-Ok.ensures.made ∙ ap (λ (vs : List Val). list (vals_of vs))
    (c.loop-argument.invariant ∙ ap (λ (l : List Expr). name_texts (expressions_in l)) (take_all c.loop-argument.argument-index es (omega arith)))
