use Rattle.std.proofs.Common.{◌≡◌, Bool, rules, subst}
use Rattle.template_compiler_syntax.specs.Syntax.{IsUsable}
use Rattle.template_compiler_sources.specs.Scoped.{taken_spans, taken_words}
use Rattle.template_compiler_sources.specs.Spans.{HoldsTokens}
use Rattle.template_compiler_sources.proofs.Sources.{found_places, found_whole, refused_whole}
use Rattle.template_compiler_sources.proofs.source.parse.Goals as goal

pub returns-in-Ok-whole_template-clause-found : goal.returns-in-Ok-whole_template-clause-found
returns-in-Ok-whole_template-clause-found c =
    found_whole c.args.syntax c.args.source.now c.in-Ok.tokens.spans c.in-Ok.tokens.left c.new-tokenizer.result.left c.in-Ok-whole_template.template
    c.new-tokenizer.ensures.tokens
    (subst (λ (b : Bool). c.in-Ok.tokens.left ≡ taken_words b c.new-tokenizer.result.left) c.scoped_blocks-scoped.ensures c.in-Ok.ensures.tokens) c.in-Ok-whole_template.ensures

pub returns-in-Ok-whole_template-clause-places : goal.returns-in-Ok-whole_template-clause-places
returns-in-Ok-whole_template-clause-places c =
    found_places c.args.syntax c.args.source.now c.new-tokenizer.result.spans c.in-Ok.tokens c.in-Ok-whole_template.template
    c.new-tokenizer.ensures.spans
    (subst (λ (b : Bool). HoldsTokens (taken_spans b c.new-tokenizer.result.spans) c.in-Ok.tokens) c.scoped_blocks-scoped.ensures c.in-Ok.ensures.placed) c.in-Ok-whole_template.ensures

pub returns-in-Err-whole_template-clause-refused : goal.returns-in-Err-whole_template-clause-refused
returns-in-Err-whole_template-clause-refused c =
    let usable : IsUsable c.args.syntax = search rules in
    refused_whole c.args.syntax c.args.source.now c.in-Ok.tokens.spans c.in-Ok.tokens.left c.new-tokenizer.result.left c.in-Err-whole_template.refusal c.refused_at.result
    usable c.new-tokenizer.ensures.tokens
    (subst (λ (b : Bool). c.in-Ok.tokens.left ≡ taken_words b c.new-tokenizer.result.left) c.scoped_blocks-scoped.ensures c.in-Ok.ensures.tokens) c.in-Err-whole_template.ensures c.refused_at.ensures
