use Rattle.std.proofs.Common.{◌<◌, ◌≤◌, length, sym, ◌∙◌, ap, arith}
use Rattle.template_compiler_stream.specs.Left.{passed}
use Rattle.template_compiler_stream.proofs.Left.{passed_here, passed_past}
use Rattle.template_compiler_stream.proofs.Spans.{left_at}
use Rattle.template_compiler_stream.proofs.stream.TokenStream.advance.Goals as goal

pub returns-then-self-len-clause-passed : goal.returns-then-self-len-clause-passed
returns-then-self-len-clause-passed c =
    let s = c.self.inside in
    let within : s.place < length s.tokens.items = omega (arith, c.len.ensures, c.if-self-len.true, s.tokens.ok.0) in
    passed_here s.tokens.items s.place s.fault within ∙ ap passed (sym (left_at _ _ _ _ c.self.view_is))

pub returns-else-self-len-clause-passed : goal.returns-else-self-len-clause-passed
returns-else-self-len-clause-passed c =
    let s = c.self.inside in
    let past : length s.tokens.items ≤ s.place = omega (arith, c.len.ensures, c.if-self-len.false, s.tokens.ok.0) in
    let here = left_at _ _ _ _ c.self.view_is in
    here ∙ passed_past s.tokens.items s.place s.fault past ∙ ap passed (sym here)
