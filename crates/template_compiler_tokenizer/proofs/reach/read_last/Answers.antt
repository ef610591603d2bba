use Rattle.std.proofs.Common.{◌+◌, [], ◌∷◌, ◌++◌, inl, inr, sym, ◌∙◌, ap, arith, length}
use Rattle.std.proofs.lemmas.Bool.{false≢true}
use Rattle.template_compiler_tokens.specs.Token.{template_data}
use Rattle.template_compiler_placed_tokens.specs.Left.{placed, data_tokens}
use Rattle.template_compiler_tokenizer.specs.Held.{spanned_of}
use Rattle.template_compiler_tokenizer.specs.Spans.{spans_in}
use Rattle.template_compiler_placed_tokens.proofs.Steps.{data_last}
use Rattle.template_compiler_tokenizer.proofs.Reading.{none_held}
use Rattle.template_compiler_tokenizer.proofs.reach.read_last.Goals as goal

pub returns-then-is_nothing : goal.returns-then-is_nothing
returns-then-is_nothing c = λ next behind.
    let x = c.args.syntax.now in
    let s = c.args.source.now in
    let text = c.data_between-begin.result.0.now in
    let none = c.is_nothing.ensures.0 c.if-is_nothing.true in
    elim (data_last x s c.requires.usable c.args.left c.args.from text c.requires.none c.data_between-begin.ensures.text) [
      | inl empty ↦ ap (λ ps. spanned_of c.args.tokens.now.items ++ spans_in s ps) empty.1
      | inr some ↦ absurd (let long = some.0 in omega arith)
    ]

pub returns-in-Ok : goal.returns-in-Ok
returns-in-Ok c = λ next behind.
    let x = c.args.syntax.now in
    let s = c.args.source.now in
    let text = c.data_between-begin.result.0.now in
    let at = c.data_between-begin.ensures.begin in
    elim (data_last x s c.requires.usable c.args.left c.args.from text c.requires.none c.data_between-begin.ensures.text) [
      | inl empty ↦ absurd (false≢true (sym c.if-is_nothing.false ∙ c.is_nothing.ensures.1 empty.0))
      | inr some ↦
          ap (λ ps. spanned_of c.args.tokens.now.items ++ spans_in s ps)
          (some.1 ∙ ap (λ b. placed (template_data text) b (b + length text) ∷ []) (sym at)) ∙
          c.in-Ok.ensures.held []
    ]

pub returns-in-Err : goal.returns-in-Err
returns-in-Err c = λ next behind.
    let x = c.args.syntax.now in
    let s = c.args.source.now in
    none_held s c.args.tokens.now.items c.hold_token.new.tokens.items (data_tokens x s c.args.left c.args.from) c.in-Err.kind
    c.in-Err.ensures.held.0 c.in-Err.ensures.held.1
