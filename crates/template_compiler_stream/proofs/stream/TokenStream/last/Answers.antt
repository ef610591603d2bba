use Rattle.std.proofs.Common.{◌≡◌, ◌-◌, suc, ◌∙◌, arith}
use Rattle.template_compiler_stream.proofs.Spans.{last_none, last_some}
use Rattle.template_compiler_stream.proofs.stream.TokenStream.last.Goals as goal

pub returns-then-self-eq0 : goal.returns-then-self-eq0
returns-then-self-eq0 c =
    let s = c.self.inside in
    let none : s.place ≡ 0 = omega (arith, c.if-self-eq0.true) in
    c.no_span.ensures ∙ last_none _ s.tokens.items s.place s.fault c.self.view_is none

pub returns : goal.returns
returns c =
    let s = c.self.inside in
    let some : s.place ≡ suc (s.place - 1) = omega (arith, c.if-self-eq0.false) in
    last_some _ s.tokens.items s.place (s.place - 1) c.index.result.now s.fault c.self.view_is c.self.invariant some c.index.ensures
