use Rattle.std.proofs.Common.{Bool, ◌&&◌, sym, ap, ◌∙◌}
use Rattle.template_compiler_tree.specs.Kinds.{is_empty}
use Rattle.template_compiler_tree.specs.View.{arguments_in}
use Rattle.template_compiler_expression_codegen.proofs.coded.is_block.Goals as goal

pub returns-then-not-is_self : goal.returns-then-not-is_self
returns-then-not-is_self c =
    ap (λ (b : Bool). b && is_empty (arguments_in c.args.call.now.args.items)) (sym c.if-not-is_self.true ∙ c.is_self.ensures)

pub returns : goal.returns
returns c =
    c.has_no_arguments.ensures ∙
    ap (λ (b : Bool). b && is_empty (arguments_in c.args.call.now.args.items)) (sym c.if-not-is_self.false ∙ c.is_self.ensures)
