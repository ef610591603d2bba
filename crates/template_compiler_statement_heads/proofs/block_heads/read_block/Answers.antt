use Rattle.std.proofs.Common.{rules, ◌∙◌}
use Rattle.template_compiler_stream.specs.Refusals.{Refused}
use Rattle.template_compiler_grammar.specs.TemplateReaderParts.{tag_end}
use Rattle.template_compiler_statement_parts.proofs.Again.{no_again, ok_again, tag_end_again, unit}
use Rattle.template_compiler_statement_heads.specs.DeclarationHeads.{block_head}
use Rattle.template_compiler_statement_heads.proofs.Named.{block_in_macro, block_outside}
use Rattle.template_compiler_statement_heads.proofs.block_heads.read_block.Goals as goal

pub returns-then-in_macro-clause-parsed : goal.returns-then-in_macro-clause-parsed
returns-then-in_macro-clause-parsed c = block_in_macro c.args.in_macro c.in-Some.name.now c.args.tokens.now.left c.in-Some.ensures c.if-in_macro.true

pub returns-in_err-expect_tag_end-in-Some-clause-parsed : goal.returns-in_err-expect_tag_end-in-Some-clause-parsed
returns-in_err-expect_tag_end-in-Some-clause-parsed c =
    let refused : Refused (block_head c.args.in_macro c.args.tokens.now.left) c.in_err-expect_tag_end-in-Some.field-0.0 =
    no_again (tag_end unit c.read_flag-required.new.tokens.left) (c.in-Some.name.now, c.read_flag-required.result) _
    (block_outside c.args.in_macro c.in-Some.name.now c.read_flag-required.result c.args.tokens.now.left c.advance.new.self.left
    c.read_flag-required.new.tokens.left c.in-Some.ensures c.if-in_macro.false c.advance.ensures.passed c.read_flag-required.ensures.parsed ∙ tag_end_again _ _)
    c.in_err-expect_tag_end-in-Some.ensures.parsed in
    search rules

pub returns-in_ok-expect_tag_end-in-Some-clause-parsed : goal.returns-in_ok-expect_tag_end-in-Some-clause-parsed
returns-in_ok-expect_tag_end-in-Some-clause-parsed c =
    ok_again (block_outside c.args.in_macro c.in-Some.name.now c.read_flag-required.result c.args.tokens.now.left c.advance.new.self.left
    c.read_flag-required.new.tokens.left c.in-Some.ensures c.if-in_macro.false c.advance.ensures.passed c.read_flag-required.ensures.parsed ∙ tag_end_again _ _)
    c.in_ok-expect_tag_end-in-Some.ensures.parsed
