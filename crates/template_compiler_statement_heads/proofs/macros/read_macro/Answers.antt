use Rattle.std.proofs.Common.{◌∙◌, sym, subst}
use Rattle.template_compiler_tokens.specs.Token.{paren_open}
use Rattle.template_compiler_grammar.specs.TemplateReader.{here}
use Rattle.template_compiler_statement_parts.specs.Parsed.{ParsedAs}
use Rattle.template_compiler_statement_heads.specs.DeclarationHeads.{macro_of}
use Rattle.template_compiler_statement_heads.proofs.Named.{macro_free, macro_reserved, skipped}
use Rattle.template_compiler_statement_heads.proofs.macros.read_macro.Goals as goal

pub returns-then-is_reserved-clause-parsed : goal.returns-then-is_reserved-clause-parsed
returns-then-is_reserved-clause-parsed g c =
    let stood = skipped paren_open c.advance.new.self.left c.skip.new.self.left c.skip.result c.if-not-skip.false c.skip.ensures.passed in
    macro_reserved (here c.args.tokens.now.spans c.args.left) c.in-Some.name.now c.args.tokens.now.left c.skip.new.self.left c.advance.new.self.left c.in-Some.ensures c.advance.ensures.passed stood
    (sym c.is_reserved.ensures ∙ c.if-is_reserved.true)

pub returns-else-is_reserved-clause-parsed : goal.returns-else-is_reserved-clause-parsed
returns-else-is_reserved-clause-parsed g c =
    let stood = skipped paren_open c.advance.new.self.left c.skip.new.self.left c.skip.result c.if-not-skip.false c.skip.ensures.passed in
    subst (λ m. ParsedAs macro_of m c.read_declared.new.tokens.left c.read_declared.result)
    (sym (macro_free (here c.args.tokens.now.spans c.args.left) c.in-Some.name.now c.args.tokens.now.left c.skip.new.self.left c.advance.new.self.left c.in-Some.ensures c.advance.ensures.passed stood
    (sym c.is_reserved.ensures ∙ c.if-is_reserved.false)))
    (rw (c.skip.ensures.spans ∙ c.advance.ensures.spans) at c.read_declared.ensures.parsed)
