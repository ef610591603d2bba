use Rattle.std.proofs.Common.{[], refl, sym, subst, ap, ◌∙◌, append-nil, List}
use Rattle.template_compiler_tokenizer.specs.Held.{spanned_of}
use Rattle.template_compiler_tokenizer.specs.Spans.{Spanned}
use Rattle.template_compiler_sources.specs.Scoped.{taken_spans, taken_words}
use Rattle.template_compiler_sources.specs.Spans.{HoldsTokens}
use Rattle.template_compiler_sources.proofs.Held.{none_before, fault_alone}
use Rattle.template_compiler_sources.proofs.LeftOut.{words_taken}
use Rattle.template_compiler_sources.proofs.source_tokens.read_tokens.Goals as goal

pub returns-in-Ok-clause-placed : goal.returns-in-Ok-clause-placed
returns-in-Ok-clause-placed c =
    let spans = c.args.tokenizer.spans in
    let none = none_before c.with_room-tokens.result.items spans c.with_room-tokens.ensures in
    let all = append-nil (spanned_of c.read_all.new.tokens.items) ∙ c.in-Ok.ensures.taken ∙ none in
    subst (λ (ts : List Spanned). HoldsTokens (taken_spans c.args.scoped_blocks ts) c.stream_of.result) all (c.stream_of.ensures [] refl)

pub returns-in-Ok-clause-tokens : goal.returns-in-Ok-clause-tokens
returns-in-Ok-clause-tokens c =
    (returns-in-Ok-clause-placed c).words ∙ words_taken c.args.scoped_blocks c.args.tokenizer.spans ∙ ap (taken_words c.args.scoped_blocks) c.in-Ok.ensures.words

pub returns-in-Some-clause-placed : goal.returns-in-Some-clause-placed
returns-in-Some-clause-placed c =
    let spans = c.args.tokenizer.spans in
    let none = none_before c.with_room-tokens.result.items spans c.with_room-tokens.ensures in
    let taken = c.in-Err.ensures.taken in
    let alone = fault_alone _ c.in-Err.error c.kind.ensures.0 c.kind.result c.in-Some.fault taken.2 c.kind.ensures.1 c.in-Some.ensures in
    subst (λ (ts : List Spanned). HoldsTokens (taken_spans c.args.scoped_blocks ts) c.stream_of-in-Some.result) (sym (sym none ∙ taken.1))
    (c.stream_of-in-Some.ensures taken.0 alone)

pub returns-in-Some-clause-tokens : goal.returns-in-Some-clause-tokens
returns-in-Some-clause-tokens c =
    (returns-in-Some-clause-placed c).words ∙ words_taken c.args.scoped_blocks c.args.tokenizer.spans ∙ ap (taken_words c.args.scoped_blocks) c.in-Err.ensures.words
