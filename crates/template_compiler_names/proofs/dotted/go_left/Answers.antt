use Rattle.std.proofs.Common.{[], ◌∷◌, ◌++◌, sym, ap, ◌∙◌}
use Rattle.template_compiler_tree.specs.View.{expression_of}
use Rattle.template_compiler_tree.specs.declared.expressions.Expr.{Expr}
use Rattle.template_compiler_tree.specs.declared.span.Spanned.{Spanned}
use Rattle.template_compiler_tree.specs.declared.expressions.GetAttr.{GetAttr as GetAttrNode}
use Rattle.template_compiler_names.specs.Dotted.{fields_left, fields_of}
use Rattle.template_compiler_names.proofs.Parts.{no_fields}
use Rattle.template_compiler_names.proofs.Sets.{gathered_push}
use Rattle.template_compiler_names.proofs.dotted.go_left.Goals as goal

pub returns-in_ok-push-in-GetAttr : goal.returns-in_ok-push-in-GetAttr
returns-in_ok-push-in-GetAttr c =
    let fields = fields_of c.args.behind.now.items in
    ap fields_of (c.in_ok-push-in-GetAttr.ensures.items ∙ ap (λ (x : Spanned GetAttrNode). c.args.behind.now.items ++ x.node.name ∷ []) c.deref.ensures) ∙
    gathered_push c.args.behind.now.items c.in-GetAttr.n.value.node.name [] ∙ ap (λ (x : Expr). fields_left (expression_of x) fields) (sym c.in-GetAttr.is)

pub returns-in_default : goal.returns-in_default
returns-in_default c = ap fields_of c.clear.ensures.items ∙ no_fields (fields_of c.args.behind.now.items) c.args.expr.now c.in_default.not-GetAttr
