use Rattle.std.proofs.Common.{sym, ◌∙◌, ap}
use Rattle.template_compiler_tokenizer.specs.Stream.{stream_of}
use Rattle.template_compiler_tokenizer.proofs.stream.TokenStreamTokens.current.Goals as goal

pub returns-in-Next-clause-shown : goal.returns-in-Next-clause-shown
returns-in-Next-clause-shown c =
    let behind = c.self.inside.tokenizer in
    (behind.left, ap (λ s. s.left) (sym c.self.view_is) ∙ ap (λ a. (stream_of behind a c.self.inside.last_span).left) c.in-Next.is)

pub returns-in-Next-clause-spanned : goal.returns-in-Next-clause-spanned
returns-in-Next-clause-spanned c =
    let behind = c.self.inside.tokenizer in
    (behind.spans, ap (λ s. s.spans) (sym c.self.view_is) ∙ ap (λ a. (stream_of behind a c.self.inside.last_span).spans) c.in-Next.is)
