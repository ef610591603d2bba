use Rattle.std.proofs.Common.{◌+◌, ◌<◌, ◌≤◌, ◌∷◌, length, set, refl, sym, ◌∙◌, ap, arith}
use Rattle.template_compiler_tree.specs.declared.span.Span.{Span}
use Rattle.template_compiler_tokens.specs.View.{token_of}
use Rattle.template_compiler_tokens.specs.declared.token.Token.{Token}
use Rattle.template_compiler_stream.specs.Left.{left_in}
use Rattle.template_compiler_stream.proofs.Left.{taken, next_end, next_nothing}
use Rattle.template_compiler_stream.proofs.Spans.{left_at, next_at, spans_at, spans_set}
use Rattle.template_compiler_stream.proofs.stream.TokenStream.take.Goals as goal
use Rattle.template_compiler_stream.proofs.stream.TokenStream.take.Goals.{in-Some, in-None}

pub returns-then-self-len-clause-taken : goal.returns-then-self-len-clause-taken
returns-then-self-len-clause-taken c =
    let s = c.self.inside in
    let first = c.index_mut.result.now in
    let within : s.place < length s.tokens.items = omega (arith, c.len.ensures, c.if-self-len.true, s.tokens.ok.0) in
    left_at _ _ _ _ c.self.view_is ∙ taken s.tokens.items s.place first c.take_from-token.new.held s.fault within c.index_mut.ensures.value ∙
    ap (λ (t : Token × Span). token_of t.0 ∷ left_in (set s.tokens.items s.place c.take_from-token.new.held) (s.place + 1) s.fault)
    (sym c.take_from-token.ensures.taken)

pub returns-then-self-len-clause-span : goal.returns-then-self-len-clause-span
returns-then-self-len-clause-span c =
    let s = c.self.inside in
    let first = c.index_mut.result.now in
    let within : s.place < length s.tokens.items = omega (arith, c.len.ensures, c.if-self-len.true, s.tokens.ok.0) in
    ap (λ (t : Token × Span). t.1) c.take_from-token.ensures.taken ∙
    next_at _ s.tokens.items s.tokens.items s.place first s.fault c.self.view_is refl within c.index_mut.ensures.value

pub returns-then-self-len-clause-spans : goal.returns-then-self-len-clause-spans
returns-then-self-len-clause-spans c =
    let s = c.self.inside in
    let first = c.index_mut.result.now in
    let within : s.place < length s.tokens.items = omega (arith, c.len.ensures, c.if-self-len.true, s.tokens.ok.0) in
    spans_set s.tokens.items s.place first c.take_from-token.new.held within c.index_mut.ensures.value c.take_from-token.ensures.span ∙
    sym (spans_at _ _ _ _ c.self.view_is)

pub returns-clause-taken : goal.returns-clause-taken
returns-clause-taken c =
    let s = c.self.inside in
    let past : length s.tokens.items ≤ s.place = omega (arith, c.len.ensures, c.if-self-len.false, s.tokens.ok.0) in
    let here = left_at _ _ _ _ c.self.view_is in
    elim c.match-self.branch [
      | in-Some w ↦ rw w.result-is (here ∙ next_end s.tokens.items s.tokens.items s.place s.fault _ refl past w.in-Some.is)
      | in-None w ↦ rw w.result-is (here ∙ next_nothing s.tokens.items s.tokens.items s.place s.fault refl past w.in-None.is)
    ]
