use Rattle.std.proofs.Common.{◌≡◌, ◌+◌, ◌≤◌, length, ◌∙◌, ap, arith}
use Rattle.template_compiler_stream.specs.Left.{behind}
use Rattle.template_compiler_stream.proofs.Left.{second_some, second_none}
use Rattle.template_compiler_stream.proofs.Spans.{left_at}
use Rattle.template_compiler_stream.proofs.stream.TokenStream.peek_second.Goals as goal

pub returns-in-Some : goal.returns-in-Some
returns-in-Some c =
    let s = c.self.inside in
    let found = c.in-Some.ensures.lookup in
    let within = found.3.0 in
    let next : c.saturating_add.result ≡ s.place + 1 = omega (arith, c.saturating_add.ensures, within, c.deref.ensures.len, s.tokens.small) in (
      _,
      ap behind (left_at _ _ _ _ c.self.view_is) ∙
          second_some s.tokens.items c.deref.result.now s.place c.saturating_add.result c.in-Some.field-0.now s.fault c.deref.ensures.value next within
          found.1,
    )

pub returns-in-None : goal.returns-in-None
returns-in-None c =
    let s = c.self.inside in
    let past : length c.deref.result.now ≤ s.place + 1 = omega (arith, c.saturating_add.ensures, c.in-None.ensures.lookup.3) in
    let none = second_none s.tokens.items c.deref.result.now s.place s.fault c.deref.ensures.value past in
    (none.0, ap behind (left_at _ _ _ _ c.self.view_is) ∙ none.1)
