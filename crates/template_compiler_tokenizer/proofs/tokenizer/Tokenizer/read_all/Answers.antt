use Rattle.std.proofs.Common.{refl, sym, subst}
use Rattle.template_compiler_tokens.specs.Left.{IsRefused}
use Rattle.template_compiler_tokenizer.specs.Spans.{words_in}
use Rattle.template_compiler_tokenizer.proofs.Held.{view_words, view_refused}
use Rattle.template_compiler_tokenizer.proofs.tokenizer.Tokenizer.read_all.Goals as goal

pub returns-in-Refused-clause-taken : goal.returns-in-Refused-clause-taken
returns-in-Refused-clause-taken c =
    let t = c.self.inside in
    let spans = c.args.self.spans in (
      spans,
      refl,
      subst (λ e. IsRefused (words_in spans) e) (sym c.new.ensures)
          (view_refused t.filename.now t.source.now t.syntax t.text.now t.finder t.state t.from t.stretch c.in-Refused.field-1 c.in-Refused.kind c.args.self
          c.self.view_is c.self.invariant c.in-Refused.is),
    )

pub returns-in-Refused-clause-words : goal.returns-in-Refused-clause-words
returns-in-Refused-clause-words c =
    let t = c.self.inside in
    view_words t.filename.now t.source.now t.syntax t.text.now t.state t.from c.args.self c.self.view_is

pub returns-in-Ok-clause-words : goal.returns-in-Ok-clause-words
returns-in-Ok-clause-words c =
    let t = c.self.inside in
    view_words t.filename.now t.source.now t.syntax t.text.now t.state t.from c.args.self c.self.view_is

pub returns-clause-words : goal.returns-clause-words
returns-clause-words c =
    let t = c.self.inside in
    view_words t.filename.now t.source.now t.syntax t.text.now t.state t.from c.args.self c.self.view_is
