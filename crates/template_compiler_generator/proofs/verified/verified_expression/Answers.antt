use Rattle.std.proofs.Common.{List, ◌≡◌, ap, sym, subst, ◌∙◌}
use Rattle.template_compiler_code.specs.Code.{Code}
use Rattle.template_compiler_code.specs.Listing.{name_in, source_in}
use Rattle.template_compiler_code_shapes.specs.Streams.{IsGood}
use Rattle.template_compiler_code_shapes.specs.declared.StreamKind.TheVariants.{Expression as ExpressionStream}
use Rattle.template_compiler_generator.specs.Drafts.{Draft}
use Rattle.template_compiler_generator.specs.View.{draft_of}
use Rattle.template_compiler_tree.specs.View.{expression_of}
use Rattle.template_compiler_generator.proofs.Accepted.{told_stream}
use Rattle.template_compiler_generator.proofs.verified.verified_expression.Goals as goal

pub accepted-requires : goal.accepted-requires
accepted-requires c =
    let good = c.expressions_are_accepted.ensures (expression_of c.args.expr.now) c.requires (draft_of c.new-generator.result) (draft_of c.compile_expr.new.self)
    (ap (λ (d : Draft). d.code) c.new-generator.ensures.draft) c.in-Ok.ensures.added in
    let P : List Code → Type 0 = λ code. IsGood ExpressionStream code in
    (ExpressionStream, subst P (sym c.in_ok-instructions.ensures.code) good)

pub returns-clause-file : goal.returns-clause-file
returns-clause-file c =
    told_stream (λ i. name_in i ≡ c.args.file.now) c.accepted.result c.in_ok-instructions.instructions
    (c.in_ok-instructions.ensures.name ∙ c.in-Ok.ensures.added.name ∙ ap (λ (d : Draft). d.name) c.new-generator.ensures.draft) c.accepted.ensures.stream

pub returns-clause-source : goal.returns-clause-source
returns-clause-source c =
    told_stream (λ i. source_in i ≡ c.args.source.now) c.accepted.result c.in_ok-instructions.instructions
    (c.in_ok-instructions.ensures.source ∙ c.in-Ok.ensures.added.source ∙ ap (λ (d : Draft). d.source) c.new-generator.ensures.draft) c.accepted.ensures.stream
