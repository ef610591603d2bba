use Rattle.std.proofs.Common.{List, ◌≡◌, ap, sym, subst, ◌∙◌}
use Rattle.template_compiler_code.specs.Code.{Code}
use Rattle.template_compiler_code.specs.Listing.{code_in, name_in, source_in}
use Rattle.template_compiler_code_shapes.specs.Streams.{IsGood}
use Rattle.template_compiler_code_shapes.specs.declared.StreamKind.TheVariants.{Template}
use Rattle.template_compiler_generator.specs.Drafts.{Draft}
use Rattle.template_compiler_generator.specs.View.{draft_of}
use Rattle.template_compiler_generator.specs.Alone.{statements_of}
use Rattle.template_compiler_tree_statements.specs.View.{statement_of}
use Rattle.template_compiler_generator.proofs.Accepted.{told_stream, told_template}
use Rattle.template_compiler_generator.proofs.verified.verified_template.Goals as goal

pub accepted-requires : goal.accepted-requires
accepted-requires c =
    let s = statement_of c.args.tree.now in
    let good = c.templates_are_accepted.ensures (statements_of s) c.requires (draft_of c.new-generator.result) (draft_of c.compile_stmt.new.self)
    (ap (λ (d : Draft). d.code) c.new-generator.ensures.draft) c.in-Ok.ensures.added in
    let P : List Code → Type 0 = λ code. IsGood Template code in
    (Template, subst P (sym c.in_ok-instructions.ensures.code) good)

pub returns-clause-kind : goal.returns-clause-kind
returns-clause-kind c =
    let s = statement_of c.args.tree.now in
    let good = c.templates_are_accepted.ensures (statements_of s) c.requires (draft_of c.new-generator.result) (draft_of c.compile_stmt.new.self)
    (ap (λ (d : Draft). d.code) c.new-generator.ensures.draft) c.in-Ok.ensures.added in
    let P : List Code → Type 0 = λ code. IsGood Template code in
    told_template c.accepted.result (code_in c.in_ok-instructions.instructions) (subst P (sym c.in_ok-instructions.ensures.code) good) c.accepted.ensures.first

pub returns-clause-file : goal.returns-clause-file
returns-clause-file c =
    told_stream (λ i. name_in i ≡ c.args.file.now) c.accepted.result c.in_ok-instructions.instructions
    (c.in_ok-instructions.ensures.name ∙ c.in-Ok.ensures.added.name ∙ ap (λ (d : Draft). d.name) c.new-generator.ensures.draft) c.accepted.ensures.stream

pub returns-clause-source : goal.returns-clause-source
returns-clause-source c =
    told_stream (λ i. source_in i ≡ c.args.source.now) c.accepted.result c.in_ok-instructions.instructions
    (c.in_ok-instructions.ensures.source ∙ c.in-Ok.ensures.added.source ∙ ap (λ (d : Draft). d.source) c.new-generator.ensures.draft) c.accepted.ensures.stream
