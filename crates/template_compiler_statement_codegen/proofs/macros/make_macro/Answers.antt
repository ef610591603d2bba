use Rattle.std.proofs.Common.{ℕ, Bool, List, ap, subst, ◌∙◌}
use Rattle.std.proofs.lemmas.Result.{on_ok_weaker}
use Rattle.template_values_model.specs.Val.{Val}
use Rattle.template_compiler_tree.specs.View.{expressions_in}
use Rattle.template_compiler_tree.specs.declared.expressions.Expr.{Expr}
use Rattle.template_compiler_code.specs.Code.{load_const, build_macro}
use Rattle.template_compiler_codegen.specs.Statements.{macro_flags}
use Rattle.template_compiler_emission.specs.Puts.{Puts}
use Rattle.template_compiler_emission.proofs.Putting.{puts_then}
use Rattle.template_compiler_expression_codegen.proofs.Putting.{puts_as}
use Rattle.template_compiler_statement_codegen.specs.Macros.{enclosed_code, names_of}
use Rattle.template_compiler_statement_codegen.proofs.macros.make_macro.Goals as goal

pub returns-clause-put : goal.returns-clause-put
returns-clause-put c =
    let name = c.args.name.now in
    let begins = c.args.begins in
    let listed = subst (λ (names : List (List ℕ)). Puts (enclosed_code names) c.args.code.now c.enclose_all.new.code)
    c.in_ok-enclosed.ensures.listed c.in_ok-enclose_all.ensures.put in
    let names = c.in_ok-names.ensures.made ∙ ap (λ (es : List Expr). names_of (expressions_in es)) c.deref.ensures.value in
    on_ok_weaker c.put-3.result (λ made.
    puts_then (puts_then listed (puts_then c.in_ok-put.ensures.put (puts_as (ap (λ (v : Val). load_const v) names) c.in_ok-put-2.ensures.put)))
    (puts_as (ap (λ (n : ℕ). build_macro name begins n) (c.macro_flags.ensures ∙ ap (λ (b : Bool). macro_flags b) c.in_ok-enclosed.ensures.caller)) made)) c.put-3.ensures.put
